use Rattle.std.proofs.Common.{◌≡◌, ℕ, List, ◌++◌, length, None, subst, ap, append_assoc}
use Rattle.std.specs.Prelude.{OnOk, codes}
use Rattle.std.specs.List.{flat_map}
use Rattle.std.proofs.lemmas.List.{append-nil}
use Rattle.vs_machine.specs.Report.{number, entry_text, bucket_line, numbers_to}
use Rattle.vs_state.specs.declared.tables.SetTables.{SetTables}
use Rattle.vs_state.specs.Plain.{plain, entry_in}
use Rattle.vs_state.specs.Tables.{numbered}
use Rattle.vs_report.proofs.Entries.{no_entries}
use Rattle.vs_report.proofs.buckets.put_bucket.Goals as goal
use Rattle.vs_report.proofs.buckets.put_bucket.Goals.{in-Some+in_ok-put_entries, in_default}

three_parts : (before first second third a b c line end : List ℕ) → first ≡ before ++ a → second ≡ first ++ b → third ≡ second ++ c → a ++ b ++ c ≡ line
    → third ++ end ≡ before ++ (line ++ end)
three_parts before first second third a b c line end is-a is-b is-c is-line = rw (is-c, is-b, is-a, ← is-line) (simp append_assoc)

pub returns : goal.returns
returns c =
    let of_sets = λ (sets : List SetTables) (b n : ℕ). flat_map (λ x. entry_text x (numbered (λ t. entry_in t b) None sets x)) (numbers_to n) in
    let sets = c.args.state.now.sets.items in
    let added : c.match-new.out.items ≡ c.put_number.new.out.items ++ of_sets sets c.args.bucket (length sets) =
    elim c.match-new.branch [
      | in-Some+in_ok-put_entries w ↦
          rw w.out-is
          (subst (λ (b : ℕ). w.put_entries.new.out.items ≡ c.put_number.new.out.items ++ of_sets sets b (length sets)) w.in-Some.ensures.1
          (subst (λ (s : List SetTables). w.put_entries.new.out.items ≡ c.put_number.new.out.items ++ of_sets s w.in-Some.id (length s)) w.deref.ensures.value w.in_ok-put_entries.ensures))
      | in_default w ↦ rw (w.out-is, no_entries sets c.args.bucket (numbers_to (length sets)) c.requires.order w.in_default.ensures, append-nil)
    ] in
    let line : codes "bucket" ++ number c.args.bucket ++ of_sets sets c.args.bucket (length sets) ≡ bucket_line (plain c.args.state.now) c.args.bucket =
    ap (λ (n : ℕ). codes "bucket" ++ number c.args.bucket ++ of_sets sets c.args.bucket n) c.requires.sized.sets in
    let whole : c.match-new.out.items ++ codes "\n" ≡ c.args.out.now.items ++ (bucket_line (plain c.args.state.now) c.args.bucket ++ codes "\n") =
    three_parts _ _ _ _ (codes "bucket") (number c.args.bucket) _ _ (codes "\n") c.in_ok-put_text.ensures (rw c.from.ensures at c.in_ok-put_number.ensures) added line in
    subst (λ (t : List ℕ). OnOk c.put_text-2.result (c.put_text-2.new.out.items ≡ t)) whole c.put_text-2.ensures
