-- Steps of a reading that went on to its end.
use Rattle.std.proofs.Common.{◌≡◌, Bool, true, false, Option, Some, None, Result, Ok, Err, refl, subst}
use Rattle.std.proofs.lemmas.Option.{same_Some}
use Rattle.vs_script.specs.Words.{◌>>=◌, or_bad, bad_if}

-- what a step gave, and that the rest went on with it
pub step : {A B E : Type 0} (r : Result A E) (rest : A → Result B E) (b : B) → (r >>= rest) ≡ Ok b → (a : A) × (r ≡ Ok a) × (rest a ≡ Ok b)
step (Ok a) rest b went = (a, refl, went)
step (Err fault) rest b went = cc

-- a test that stopped nothing
pub passed : {E : Type 0} (test : Bool) (fault : E) (u : Unit {0}) → bad_if test fault ≡ Ok u → test ≡ false
passed false fault u went = refl
passed true fault u went = cc

-- a value that was there
pub there : {A E : Type 0} (o : Option A) (fault : E) (a : A) → or_bad o fault ≡ Ok a → o ≡ Some a
there (Some x) fault a went = cc
there None fault a went = cc

-- what holds of a value holds of one that is the same
pub of_same : {A : Type 0} (P : A → Type 0) (a b : A) → P a → Some a ≡ Some b → P b
of_same P a b holds same = subst P (same_Some a b same) holds
