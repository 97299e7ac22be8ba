-- Steps of a reading that went on to the end.
use Rattle.std.proofs.Common.{◌≡◌, Bool, true, false, Option, Some, None, Result, Ok, Err, refl}
use Rattle.vs_script.specs.Words.{◌>>=◌, or_bad, bad_if}

pub step : {A B E : Type 0} (r : Result A E) (rest : A → Result B E) (b : B) → (r >>= rest) ≡ Ok b → (a : A) × (r ≡ Ok a) × (rest a ≡ Ok b)
step (Ok a) rest b e = (a, refl, e)
step (Err fault) rest b e = cc

-- a test that let the rest go on
pub passed : {E : Type 0} (test : Bool) (fault : E) (u : Unit {0}) → bad_if test fault ≡ Ok u → test ≡ false
passed false fault u e = refl
passed true fault u e = cc

-- a value that is there
pub given : {A E : Type 0} (o : Option A) (fault : E) (a : A) → or_bad o fault ≡ Ok a → o ≡ Some a
given (Some b) fault a e = cc
given None fault a e = cc
