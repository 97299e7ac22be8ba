-- A history that gets longer keeps its entries.
use Rattle.std.proofs.Common.{◌≡◌, ℕ, ◌≤◌, refl, sym, subst, arith, List, [], ◌∷◌, ◌++◌, append_assoc, Contains, All}
use Rattle.std.proofs.lemmas.List.{length-append}
use Rattle.std.proofs.lemmas.List.Elements.{All-append, All-cons, All-push, Contains-append_left, Contains-push}
use Rattle.vs_base.specs.declared.numbers.CallId.{CallId}
use Rattle.vs_base.specs.declared.numbers.Mode.{Mode}
use Rattle.vs_base.specs.declared.numbers.Mode.TheVariants.{Ro, Rw}
use Rattle.vs_rows.specs.Operations.{answers_to}
use Rattle.vs_rows.specs.declared.op.Op.{Op}
use Rattle.vs_rows.specs.Said.{Said}
use Rattle.vs_history.specs.History.{Entry, History, write_count}
use Rattle.vs_machine.specs.State.{Bucket}
use Rattle.vs_machine.specs.History.{StandsWith, entries_of}
use Rattle.vs_machine.specs.Kinds.Calls.{bucket_after, place_of}
use Rattle.vs_machine.specs.Inner.Once.{all_entries}
use Rattle.vs_machine.proofs.Numbers.{All-before, All-behind}

pub record Grows (old new : History) : Type 0 where
  pub count : write_count old ≤ write_count new
  pub writes : (e : Entry) → Contains old.writes e → Contains new.writes e
  pub reads : (e : Entry) → Contains old.reads e → Contains new.reads e

pub same_grows : (old new : History) → new ≡ old → Grows old new
same_grows old new is = subst (Grows old) (sym is) (record { count = omega arith; writes = λ e h. h; reads = λ e h. h })

-- a call that runs adds its entry
pub run_grows : (b : Bucket) (x : ℕ) (id : CallId) (mode : Mode) (ops : List Op) → Grows b.history (bucket_after b x id mode ops).history
run_grows b x id Rw ops = record { count = omega (arith, length-append {A = Entry}); writes = λ e h. Contains-append_left b.history.writes (_ ∷ []) e h; reads = λ e h. h }
run_grows b x id Ro ops = record { count = omega arith; writes = λ e h. h; reads = λ e h. Contains-append_left b.history.reads (_ ∷ []) e h }

-- a call that stands in the history still does
pub stands_on : (old new : History) (mode : Mode) (id : CallId) (place : ℕ) (answers : List Said) → Grows old new → StandsWith (entries_of old mode) id place answers → StandsWith (entries_of new mode) id place answers
stands_on old new Rw id place answers g (e, there, is, at, says) = (e, g.writes e there, is, at, says)
stands_on old new Ro id place answers g (e, there, is, at, says) = (e, g.reads e there, is, at, says)

-- what holds of each entry, and of the one that is added
between : (P : Entry → Type 0) (xs ys : List Entry) (e : Entry) → All P (xs ++ ys) → P e → All P (xs ++ e ∷ ys)
between P xs ys e h p = All-append P xs (e ∷ ys) (All-before P xs ys h) (All-cons P e ys p (All-behind P xs ys h))

pub run_all : (P : Entry → Type 0) (b : Bucket) (x : ℕ) (id : CallId) (mode : Mode) (ops : List Op) → All P (all_entries b.history) → ((e : Entry) → e.id ≡ id → P e) → All P (all_entries (bucket_after b x id mode ops).history)
run_all P b x id Rw ops h p = subst (All P) (sym (append_assoc b.history.writes (_ ∷ []) b.history.reads)) (between P b.history.writes b.history.reads _ h (p _ refl))
run_all P b x id Ro ops h p = subst (All P) (append_assoc b.history.writes b.history.reads (_ ∷ [])) (All-push P (b.history.writes ++ b.history.reads) _ h (p _ refl))

-- a call that ran stands in the history, with its place and its answers
pub run_stands : (b : Bucket) (x : ℕ) (id : CallId) (mode : Mode) (ops : List Op) → StandsWith (entries_of (bucket_after b x id mode ops).history mode) id (place_of b x mode) (answers_to (b.rows x) ops)
run_stands b x id Rw ops = let e : Entry = record { id = id; ops = ops; answers = answers_to (b.rows x) ops; place = place_of b x Rw } in (e, Contains-push b.history.writes e, refl, refl, refl)
run_stands b x id Ro ops = let e : Entry = record { id = id; ops = ops; answers = answers_to (b.rows x) ops; place = place_of b x Ro } in (e, Contains-push b.history.reads e, refl, refl, refl)
