-- A call stands in one history at most, and there at one place.
use Rattle.std.proofs.Common.{◌≡◌, ℕ, zero, suc, refl, sym, ap, subst, ◌∙◌, List, [], ◌∷◌, Some}
use Rattle.std.specs.Prelude.{◌-◌, All, slice_get}
use Rattle.std.proofs.lemmas.List.Elements.{All-append, All-weaker}
use Rattle.std.proofs.lemmas.Option.{slice_get_within, get_or_from_slice_get}
use Rattle.vs_base.specs.declared.numbers.CallId.{CallId}
use Rattle.vs_base.specs.declared.numbers.Mode.{Mode}
use Rattle.vs_base.specs.declared.numbers.Mode.TheVariants.{Ro, Rw}
use Rattle.vs_history.specs.History.{Entry, History}
use Rattle.vs_script.specs.Calls.{Call}
use Rattle.vs_machine.specs.State.{Client}
use Rattle.vs_machine.specs.History.{IsCallOf, IsOther, IsOnce}
use Rattle.vs_machine.specs.Laws.{SingleRuns}
use Rattle.vs_machine.specs.Inner.Once.{IdsFit, all_entries}
use Rattle.vs_machine.proofs.Reached.{reached_whole}

-- what holds of each element holds of this one
pub at_place : (P : Entry → Type 0) (es : List Entry) (n : ℕ) (e : Entry) → slice_get es n ≡ Some e → All P es → P e
at_place P es n e at all = subst P (get_or_from_slice_get es n e e at) (all n e (slice_get_within es n e at))

one_place : (es : List Entry) (m n : ℕ) (e f : Entry) → IsOnce es → slice_get es m ≡ Some e → slice_get es n ≡ Some f → e.id ≡ f.id → m ≡ n
one_place [] m n e f once at to is = absurd (cc (at))
one_place (x ∷ es) zero zero e f once at to is = refl
one_place (x ∷ es) zero (suc n) e f once at to is = let here : x ≡ e = cc in absurd (at_place (IsOther x) es n f to once.0 (ap (λ (v : Entry). v.id) here ∙ is))
one_place (x ∷ es) (suc m) zero e f once at to is = let here : x ≡ f = cc in absurd (at_place (IsOther x) es m e at once.0 (ap (λ (v : Entry). v.id) here ∙ sym is))
one_place (x ∷ es) (suc m) (suc n) e f once at to is = ap suc (one_place es m n e f once.1 at to is)

-- an entry is a call of its script, which is of one bucket
abbrev pub IsCalled : (ℕ → List Call) → ℕ → Entry → Type 0
IsCalled scripts b e = (mode : Mode) × IsCallOf scripts b mode e

pub all_called : (cs : ℕ → Client) (b : ℕ) (h : History) → IdsFit cs b h → All (IsCalled (λ c. (cs c).script) b) (all_entries h)
all_called cs b h f =
    let scripts : ℕ → List Call = λ c. (cs c).script in
    All-append (IsCalled scripts b) h.writes h.reads
    (All-weaker (IsCallOf scripts b Rw) (IsCalled scripts b) (λ e g. (Rw, g)) h.writes f.writes_called)
    (All-weaker (IsCallOf scripts b Ro) (IsCalled scripts b) (λ e g. (Ro, g)) h.reads f.reads_called)

pub one_call : (k l : Call) → Some k ≡ Some l → k ≡ l
one_call k l h = cc

one_bucket : (scripts : ℕ → List Call) (b d : ℕ) (e f : Entry) → IsCalled scripts b e → IsCalled scripts d f → e.id ≡ f.id → b ≡ d
one_bucket scripts b d e f g h is =
    let same = one_call _ _ (sym g.1.1 ∙ ap (λ (id : CallId). slice_get (scripts id.client) (id.call - 1)) is ∙ h.1.1) in
    ap (λ (k : Call). k.bucket) same

pub single_runs : SingleRuns
single_runs s r b d m n e f at to is =
    let ids = (reached_whole s r).1.once.entries in
    let es = λ (q : ℕ). all_entries (s.bucket q).history in
    let called = λ (q : ℕ). all_called s.client q (s.bucket q).history (ids q) in
    let scripts : ℕ → List Call = λ c. (s.client c).script in
    let same : b ≡ d = one_bucket scripts b d e f (at_place (IsCalled scripts b) (es b) m e at (called b)) (at_place (IsCalled scripts d) (es d) n f to (called d)) is in
    (same, one_place (es d) m n e f (ids d).once (subst (λ q. slice_get (es q) m ≡ Some e) same at) to is)
