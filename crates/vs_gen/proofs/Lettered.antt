-- A letter and a number are a name.
use Rattle.std.proofs.Common.{ℕ, ◌≤◌, ◌<◌, ◌^◌, ◌∷◌, get_or, ap, arith, lit<}
use Rattle.std.specs.Fmt.{decimal}
use Rattle.std.specs.Str.Parse.{AllDigits}
use Rattle.std.proofs.lemmas.Fmt.{decimal_is_IsNumeral, length-decimal-le}
use Rattle.std.proofs.lemmas.List.Elements.{All-cons, All-from_get_or}
use Rattle.std.proofs.lemmas.Str.Parse.{digit_at}
use Rattle.vs_rows.specs.Names.{IsName}

pub lettered : (most letter n : ℕ) → 21 ≤ most → 0x41 ≤ letter → letter ≤ 0x7E → n < 10 ^ 3 → IsName most (letter ∷ decimal n)
lettered most letter n long low high small =
    let digits : AllDigits 10 (decimal n) = (decimal_is_IsNumeral n (omega arith)).0.1 in
    let IsVisible : ℕ → Type 0 = λ b. (0x21 ≤ b) × (b ≤ 0x7E) in
    record {
      some = omega arith;
      short = omega (arith, length-decimal-le 3 n (lit< tt) small (omega arith));
      visible = All-cons IsVisible letter (decimal n) (omega arith, omega arith)
          (All-from_get_or IsVisible (decimal n) 0
          (λ i h. (omega (arith, (digit_at (decimal n) i digits h).0), omega (arith, (digit_at (decimal n) i digits h).1))));
      no_mark = λ e. absurd (omega (arith, ap (λ bytes. get_or bytes 0 0) e));
    }
