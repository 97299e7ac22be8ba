-- The definitions at worked examples.
use Rattle.std.proofs.Common.{◌≡◌, ℕ, Bool, true, false, List, [], ◌∷◌, refl}
use Rattle.vs_balance.specs.declared.view.SetView.{SetView}
use Rattle.vs_balance.specs.Sharing.{numbers_of}
use Rattle.vs_balance.specs.Member.{next}
use Rattle.vs_balance.specs.Ideal.{settled, ideal_of}
use Rattle.vs_balance.specs.Routes.{routes_of}

abbrev view : ℕ → ℕ → ℕ → Bool → SetView
view count pinned weight locked =
    record { count = count; pinned = pinned; weight = weight; locked = locked }

even : ideal_of (view 10 0 1 false ∷ view 0 0 1 false ∷ view 0 0 1 false ∷ []) ≡ 3 ∷ 3 ∷ 4 ∷ []
unfolding ideal_of settled next numbers_of
even = refl

held : ideal_of (view 10 8 1 false ∷ view 0 0 1 false ∷ []) ≡ 8 ∷ 2 ∷ []
unfolding ideal_of settled next numbers_of
held = refl

weightless : ideal_of (view 5 0 1 false ∷ view 5 0 0 false ∷ []) ≡ 10 ∷ 0 ∷ []
unfolding ideal_of settled next numbers_of
weightless = refl

locked : ideal_of (view 7 0 1 true ∷ view 3 0 1 true ∷ []) ≡ 7 ∷ 3 ∷ []
unfolding ideal_of settled next numbers_of
locked = refl

locked_routes : routes_of (view 7 0 1 true ∷ view 3 0 1 true ∷ []) (7 ∷ 3 ∷ []) 100 ≡ []
unfolding routes_of
locked_routes = refl

abbrev four : List SetView
four = view 750 0 2 false ∷ view 750 0 1 false ∷ view 750 0 1 false ∷ view 750 0 1 false ∷ []

uneven : ideal_of four ≡ 1200 ∷ 600 ∷ 600 ∷ 600 ∷ []
unfolding ideal_of settled next numbers_of
uneven = refl

capped : routes_of four (1200 ∷ 600 ∷ 600 ∷ 600 ∷ []) 100 ≡ record { giver = 2; taker = 1; number = 100 } ∷ []
unfolding routes_of
capped = refl

uncapped : routes_of four (1200 ∷ 600 ∷ 600 ∷ 600 ∷ []) 30000
    ≡ record { giver = 2; taker = 1; number = 150 }
    ∷ record { giver = 3; taker = 1; number = 150 }
    ∷ record { giver = 4; taker = 1; number = 150 } ∷ []
unfolding routes_of
uncapped = refl

-- two sets leave, one after the other
twice : ideal_of (view 20 20 1 false ∷ view 11 11 1 false ∷ view 2 0 1 false ∷ view 5 5 7 true ∷ [])
    ≡ 20 ∷ 11 ∷ 2 ∷ 5 ∷ []
unfolding ideal_of settled next numbers_of
twice = refl
