-- A list fails where one of its items does.
use Rattle.std.proofs.Common.{◌≡◌, ℕ, ◌-◌, ◌<◌, Bool, true, List, length}
use Rattle.vs_audit.specs.Given.{IsFaultOf, IsTextFaultOf}
use Rattle.vs_audit.specs.Reading.{many_at, all_at, listed_at}
use Rattle.vs_audit.specs.Report.{Rest, ReadLines}
use Rattle.vs_audit.specs.Words.{Words, Read, Bad}
use Rattle.vs_audit.specs.declared.audit_text.AuditText.{AuditText}
use Rattle.vs_audit.specs.declared.audit_text.AuditText.TheVariants as text
use Rattle.vs_audit.specs.declared.line_fault.LineFault.{LineFault}
use Rattle.vs_audit.specs.declared.line_fault.LineFault.TheVariants as fault
use Rattle.vs_audit.proofs.Lists.{front, left_fails, begun_wrong, listed_wrong, marked_wrong}

module _ {A T : Type 0} (item : T → Words → Read A) (next : T → A → T) where
  pub word_fails : (all : Read (List A)) (done : List A) (count n : ℕ) (t : T) (s : Words) (bad : LineFault)
      → n < count → all ≡ front done (many_at item next (count - n) t s) → IsFaultOf bad (item t s) → IsFaultOf bad all
  word_fails all done count n t s fault.Bad within so_far is = left_fails item next all done count n t s Bad within so_far is
  word_fails all done count n t s fault.NoMemory within so_far is = tt

module _ {A : Type 0} (item : Words → Read A) (after : (Words → Read (List A)) → Words → Read (List A)) where
  pub first_fails : (count : ℕ) (s : Words) (bad : LineFault) → 0 < count → IsFaultOf bad (item s) → IsFaultOf bad (listed_at Bad item after count s)
  first_fails count s fault.Bad some is = listed_wrong Bad item after count s Bad some is
  first_fails count s fault.NoMemory some is = tt

  pub marked_fails : (all : Read (List A)) (done : List A) (count : ℕ) (s marked : Words) (bad : LineFault)
      → length done < count → all ≡ front done (after (listed_at Bad item after (count - length done)) s)
      → ((f : Words → Read (List A)) → after f s ≡ f marked) → IsFaultOf bad (item marked) → IsFaultOf bad all
  marked_fails all done count s marked fault.Bad within so_far mark is = marked_wrong Bad item after all done count s marked Bad within so_far mark is
  marked_fails all done count s marked fault.NoMemory within so_far mark is = tt

module _ {A T : Type 0} (item : T → Rest → ReadLines A) (next : T → A → T) where
  pub line_fails : (all : ReadLines (List A)) (done : List A) (count n : ℕ) (t : T) (s : Rest) (bad : AuditText)
      → n < count → all ≡ front done (many_at item next (count - n) t s) → IsTextFaultOf bad (item t s) → IsTextFaultOf bad all
  line_fails all done count n t s (text.Bad line) within so_far is = left_fails item next all done count n t s line within so_far is
  line_fails all done count n t s text.NoMemory within so_far is = tt

  pub begun_fails : (begins : Rest → Bool) (all : ReadLines (List A)) (done : List A) (count n : ℕ) (t : T) (s : Rest) (bad : AuditText)
      → n < count → all ≡ front done (all_at begins item next (count - n) t s) → begins s ≡ true → IsTextFaultOf bad (item t s) → IsTextFaultOf bad all
  begun_fails begins all done count n t s (text.Bad line) within so_far test is = begun_wrong item next begins all done count n t s line within so_far test is
  begun_fails begins all done count n t s text.NoMemory within so_far test is = tt
