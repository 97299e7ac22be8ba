-- How calls were posted again, while the list of events grows.
use Rattle.std.proofs.Common.{◌≡◌, ℕ, zero, suc, inl, inr, ◌-◌, ◌≤◌, ◌<◌, arith, Bool, true, false, refl, sym, ap, subst, ◌∙◌, List, [], ◌∷◌, ◌++◌, length, take, get_or, get_or-set_same, get_or-set_other, replicate, slice_set, Some, Ok}
use Rattle.std.specs.Prelude.{◌≢◌, ◌⊎◌, ◌↔◌, slice_get}
use Rattle.std.proofs.lemmas.List.{take-append-le}
use Rattle.std.proofs.lemmas.Option.{slice_get_within}
use Rattle.std.proofs.lemmas.Bool.{cases_eq}
use Rattle.std.proofs.Math.Seq.{take-append_seam}
use Rattle.vs_event.specs.declared.event.Event.{Event}
use Rattle.vs_event.specs.declared.event.Event.TheVariants.{Post, NotYet}
use Rattle.vs_machine.specs.Tables.{put}
use Rattle.vs_machine.specs.State.{State, next_call}
use Rattle.vs_machine.specs.Step.{run}
use Rattle.vs_machine.specs.Actors.{IsSteered, IsByHintAlone, IsFurtherPost, AreInARow}
use Rattle.vs_machine.specs.Driven.{WentByHint, IsDriven, IsNoPost, GoesByHint, IsPostAllowed, flags_of, ListedFlags, DrivenAtFirst, DrivenByOthers, DrivenByPosts}
use Rattle.vs_machine.proofs.Frame.{put_here, put_there}
use Rattle.vs_machine.proofs.Possible.{ok_is}

-- ---- places of a list with one more

pub pushed : {A : Type 0} (es : List A) (e : A) (m : ℕ) (v : A) → slice_get (es ++ e ∷ []) m ≡ Some v → ((m < length es) × (slice_get es m ≡ Some v)) ⊎ ((m ≡ length es) × (e ≡ v))
pushed [] e zero v h = inr (refl, cc)
pushed [] e (suc m) v h = absurd cc
pushed (x ∷ es) e zero v h = inl (omega arith, h)
pushed (x ∷ es) e (suc m) v h = by (pushed es e m v h)
  where
    by : ((m < length es) × (slice_get es m ≡ Some v)) ⊎ ((m ≡ length es) × (e ≡ v)) → ((suc m < length (x ∷ es)) × (slice_get es m ≡ Some v)) ⊎ ((suc m ≡ length (x ∷ es)) × (e ≡ v))
    by (inl p) = inl (omega (arith, p.0), p.1)
    by (inr p) = inr (omega (arith, p.0), p.1)

kept_place : {A : Type 0} (es : List A) (e : A) (m : ℕ) (v : A) → slice_get es m ≡ Some v → slice_get (es ++ e ∷ []) m ≡ Some v
kept_place [] e m v h = absurd cc
kept_place (x ∷ es) e zero v h = h
kept_place (x ∷ es) e (suc m) v h = kept_place es e m v h

last_place : {A : Type 0} (es : List A) (e : A) → slice_get (es ++ e ∷ []) (length es) ≡ Some e
last_place [] e = refl
last_place (x ∷ es) e = last_place es e

module _ (start : State) (es : List Event) (e : Event) where
  -- a post before the last event is the same in both lists
  abbrev older : (i c x : ℕ) → i < length es → slice_get es i ≡ Some (Post c x) → IsFurtherPost start (es ++ e ∷ []) i c x → IsFurtherPost start es i c x
  older i c x lt at p = record {
    before = p.before;
    ran = subst (λ (v : List Event). run start v ≡ Ok p.before) (take-append-le i es (e ∷ []) (omega (arith, lt))) p.ran;
    there = at;
    call = p.call;
    called = p.called;
    further = p.further;
  }

  abbrev newer : (i c x : ℕ) → IsFurtherPost start es i c x → IsFurtherPost start (es ++ e ∷ []) i c x
  newer i c x p =
      let lt = slice_get_within es i (Post c x) p.there in
      record {
        before = p.before;
        ran = subst (λ (v : List Event). run start v ≡ Ok p.before) (sym (take-append-le i es (e ∷ []) (omega (arith, lt)))) p.ran;
        there = kept_place es e i (Post c x) p.there;
        call = p.call;
        called = p.called;
        further = p.further;
      }

  -- the last post of a client is the same where the new event is no post of its
  went_before : (c : ℕ) → ((x : ℕ) → e ≢ Post c x) → WentByHint start (es ++ e ∷ []) c → WentByHint start es c
  went_before c none w = by (pushed es e w.index (Post c w.set) w.post.there)
    where
      by : ((w.index < length es) × (slice_get es w.index ≡ Some (Post c w.set))) ⊎ ((w.index ≡ length es) × (e ≡ Post c w.set)) → WentByHint start es c
      by (inl p) = record { index = w.index; set = w.set; post = older w.index c w.set p.0 p.1 w.post; alone = w.alone; last = λ m x lt at. w.last m x lt (kept_place es e m (Post c x) at) }
      by (inr p) = absurd (none w.set p.1)

  went_after : (c : ℕ) → ((x : ℕ) → e ≢ Post c x) → WentByHint start es c → WentByHint start (es ++ e ∷ []) c
  went_after c none w = record {
    index = w.index;
    set = w.set;
    post = newer w.index c w.set w.post;
    alone = w.alone;
    last = λ m x lt at. by m x lt (pushed es e m (Post c x) at);
  }
    where
      by : (m x : ℕ) → w.index < m → ((m < length es) × (slice_get es m ≡ Some (Post c x))) ⊎ ((m ≡ length es) × (e ≡ Post c x)) → ⊥
      by m x lt (inl p) = w.last m x lt p.1
      by m x lt (inr p) = none x p.1

  in_a_row : (i j c : ℕ) → AreInARow (es ++ e ∷ []) c i j → AreInARow es c i j
  in_a_row i j c r = (r.0, λ m x from to at. r.1 m x from to (kept_place es e m (Post c x) at))

-- ---- the first list

pub driven_at_first : DrivenAtFirst
driven_at_first start = record {
  posts = record { each = λ i c x p. absurd (nothing i (Post c x) p.there); not_both = λ i j c x y p q row same a b. absurd (nothing i (Post c x) p.there) };
  hints = λ c. (λ h. absurd cc, λ w. absurd (nothing w.index (Post c w.set) w.post.there));
  unwaited = λ m x b h. nothing m (NotYet x b) h;
}
  where
    nothing : (m : ℕ) (e : Event) → slice_get [] m ≡ Some e → ⊥
    nothing m e h = absurd cc

-- ---- another event

no_post : (e : Event) → IsNoPost e → (c x : ℕ) → e ≢ Post c x
no_post e quiet c x is = subst IsNoPost is quiet

no_wait : (e : Event) → IsNoPost e → (x b : ℕ) → e ≢ NotYet x b
no_wait e quiet x b is = subst IsNoPost is quiet

pub driven_by_others : DrivenByOthers
driven_by_others start es flags e d quiet = record {
  posts = record {
    each = λ i c x p. let at = place i (Post c x) p.there (no_post e quiet c x) in d.posts.each i c x (older start es e i c x at.0 at.1 p);
    not_both = λ i j c x y p q row same a b.
        let at = place i (Post c x) p.there (no_post e quiet c x) in
        let to = place j (Post c y) q.there (no_post e quiet c y) in
        d.posts.not_both i j c x y (older start es e i c x at.0 at.1 p) (older start es e j c y to.0 to.1 q) (in_a_row start es e i j c row) same a b;
  };
  hints = λ c. (λ h. went_after start es e c (no_post e quiet c) ((d.hints c).0 h), λ w. (d.hints c).1 (went_before start es e c (no_post e quiet c) w));
  unwaited = λ m x b h. d.unwaited m x b (place m (NotYet x b) h (no_wait e quiet x b)).1;
}
  where
    place : (m : ℕ) (v : Event) → slice_get (es ++ e ∷ []) m ≡ Some v → e ≢ v → (m < length es) × (slice_get es m ≡ Some v)
    place m v at other = by (pushed es e m v at)
      where
        by : ((m < length es) × (slice_get es m ≡ Some v)) ⊎ ((m ≡ length es) × (e ≡ v)) → (m < length es) × (slice_get es m ≡ Some v)
        by (inl p) = p
        by (inr p) = absurd (other p.1)

-- ---- a post

one_post : (c d x y : ℕ) → Post c x ≡ Post d y → (c ≡ d) × (x ≡ y)
one_post c d x y e = (cc, cc)

module _ (start s : State) (es : List Event) (flags : ℕ → Bool) (c x : ℕ) (flag : Bool) (d : IsDriven start es flags) (ran : run start es ≡ Ok s)
    (may : IsPostAllowed s (flags c) c x) (went : (flag ≡ true) ↔ GoesByHint s c x) where
  -- a further post at the new place is the new one, in the state that the run reached
  new_state : (i : ℕ) (t : State) → i ≡ length es → run start (take i (es ++ Post c x ∷ [])) ≡ Ok t → s ≡ t
  new_state i t is h = ok_is s t (sym ran ∙ sym (ap (run start) (ap (λ n. take n (es ++ Post c x ∷ [])) is ∙ take-append_seam es (Post c x ∷ []))) ∙ h)

  steered_now : (i a y : ℕ) (p : IsFurtherPost start (es ++ Post c x ∷ []) i a y) → i ≡ length es → c ≡ a → x ≡ y → IsSteered p.before a y p.call
  steered_now i a y p is client set =
      let same = new_state i p.before is p.ran in
      subst (λ (u : State). IsSteered u a y p.call) same
      (subst (λ (v : ℕ). IsSteered s a v p.call) set
      (subst (λ (v : ℕ). IsSteered s v x p.call) client
      (may.steered p.call
      (subst (λ (v : ℕ). next_call (s.client v) ≡ Some p.call) (sym client) (subst (λ (u : State). next_call (u.client a) ≡ Some p.call) (sym same) p.called))
      (subst (λ (v : ℕ). 1 ≤ (s.client v).present.tries) (sym client) (subst (λ (u : State). 1 ≤ (u.client a).present.tries) (sym same) p.further)))))

  goes_now : (i a y : ℕ) (p : IsFurtherPost start (es ++ Post c x ∷ []) i a y) → i ≡ length es → c ≡ a → x ≡ y → IsByHintAlone p.before a y p.call → GoesByHint s c x
  goes_now i a y p is client set alone =
      let same = new_state i p.before is p.ran in
      record {
        call = p.call;
        called = subst (λ (v : ℕ). next_call (s.client v) ≡ Some p.call) (sym client) (subst (λ (u : State). next_call (u.client a) ≡ Some p.call) (sym same) p.called);
        further = subst (λ (v : ℕ). 1 ≤ (s.client v).present.tries) (sym client) (subst (λ (u : State). 1 ≤ (u.client a).present.tries) (sym same) p.further);
        alone = subst (λ (v : ℕ). IsByHintAlone s v x p.call) (sym client) (subst (λ (v : ℕ). IsByHintAlone s a v p.call) (sym set) (subst (λ (u : State). IsByHintAlone u a y p.call) (sym same) alone));
      }

  each : (i a y : ℕ) (p : IsFurtherPost start (es ++ Post c x ∷ []) i a y) → IsSteered p.before a y p.call
  each i a y p = by (pushed es (Post c x) i (Post a y) p.there)
    where
      by : ((i < length es) × (slice_get es i ≡ Some (Post a y))) ⊎ ((i ≡ length es) × (Post c x ≡ Post a y)) → IsSteered p.before a y p.call
      by (inl h) = d.posts.each i a y (older start es (Post c x) i a y h.0 h.1 p)
      by (inr h) = let same = one_post c a x y h.1 in steered_now i a y p h.0 same.0 same.1

  not_both : (i j a y z : ℕ) (p : IsFurtherPost start (es ++ Post c x ∷ []) i a y) (q : IsFurtherPost start (es ++ Post c x ∷ []) j a z) → AreInARow (es ++ Post c x ∷ []) a i j
      → (p.before.client a).present.number ≡ (q.before.client a).present.number → IsByHintAlone p.before a y p.call → IsByHintAlone q.before a z q.call → ⊥
  not_both i j a y z p q row same one two = by (pushed es (Post c x) i (Post a y) p.there) (pushed es (Post c x) j (Post a z) q.there)
    where
      by : ((i < length es) × (slice_get es i ≡ Some (Post a y))) ⊎ ((i ≡ length es) × (Post c x ≡ Post a y)) → ((j < length es) × (slice_get es j ≡ Some (Post a z))) ⊎ ((j ≡ length es) × (Post c x ≡ Post a z)) → ⊥
      by (inl h) (inl g) = d.posts.not_both i j a y z (older start es (Post c x) i a y h.0 h.1 p) (older start es (Post c x) j a z g.0 g.1 q) (in_a_row start es (Post c x) i j a row) same one two
      by (inr h) (inl g) = let lt : i < j = row.0 in let is = h.0 in let to = g.0 in absurd (omega (arith, lt, is, to))
      by (inr h) (inr g) = let lt : i < j = row.0 in let is = h.0 in let to = g.0 in absurd (omega (arith, lt, is, to))
      by (inl h) (inr g) =
          let post = one_post c a x z g.1 in
          may.not_both
          (subst (λ (v : ℕ). flags v ≡ true) (sym post.0)
          ((d.hints a).1 (record {
            index = i;
            set = y;
            post = older start es (Post c x) i a y h.0 h.1 p;
            alone = one;
            last = λ m w from at. row.1 m w from (subst (λ (n : ℕ). m < n) (sym g.0) (slice_get_within es m (Post a w) at)) (kept_place es (Post c x) m (Post a w) at);
          })))
          (goes_now j a z q g.0 post.0 post.1 two)

  -- the client's last post is the new one
  new_last : GoesByHint s c x → WentByHint start (es ++ Post c x ∷ []) c
  new_last g = record {
    index = length es;
    set = x;
    post = record {
      before = s;
      ran = subst (λ (v : List Event). run start v ≡ Ok s) (sym (take-append_seam es (Post c x ∷ []))) ran;
      there = last_place es (Post c x);
      call = g.call;
      called = g.called;
      further = g.further;
    };
    alone = g.alone;
    last = λ m y lt at. by m y lt (pushed es (Post c x) m (Post c y) at);
  }
    where
      by : (m y : ℕ) → length es < m → ((m < length es) × (slice_get es m ≡ Some (Post c y))) ⊎ ((m ≡ length es) × (Post c x ≡ Post c y)) → ⊥
      by m y lt (inl h) = let to = h.0 in absurd (omega (arith, lt, to))
      by m y lt (inr h) = let is = h.0 in absurd (omega (arith, lt, is))

  last_new : WentByHint start (es ++ Post c x ∷ []) c → GoesByHint s c x
  last_new w = by (pushed es (Post c x) w.index (Post c w.set) w.post.there)
    where
      by : ((w.index < length es) × (slice_get es w.index ≡ Some (Post c w.set))) ⊎ ((w.index ≡ length es) × (Post c x ≡ Post c w.set)) → GoesByHint s c x
      by (inl h) = absurd (w.last (length es) x h.0 (last_place es (Post c x)))
      by (inr h) = goes_now w.index c w.set w.post h.0 refl (one_post c c x w.set h.1).1 w.alone

  hints : (a : ℕ) → (put flags c flag a ≡ true) ↔ WentByHint start (es ++ Post c x ∷ []) a
  hints a = by (cases_eq a c)
    where
      by : (a ≡ c) ⊎ (a ≢ c) → (put flags c flag a ≡ true) ↔ WentByHint start (es ++ Post c x ∷ []) a
      by (inl is) = subst (λ (v : ℕ). (put flags c flag v ≡ true) ↔ WentByHint start (es ++ Post c x ∷ []) v) (sym is)
          (λ h. new_last (went.0 (sym (put_here flags c flag) ∙ h)), λ w. put_here flags c flag ∙ went.1 (last_new w))
      by (inr ne) =
          let other : (y : ℕ) → Post c x ≢ Post a y = λ y h. ne (sym (one_post c a x y h).0) in
          let kept = put_there flags c flag a ne in
          (λ h. went_after start es (Post c x) a other ((d.hints a).0 (sym kept ∙ h)), λ w. kept ∙ (d.hints a).1 (went_before start es (Post c x) a other w))

  unwaited : (m y b : ℕ) → slice_get (es ++ Post c x ∷ []) m ≢ Some (NotYet y b)
  unwaited m y b at = by (pushed es (Post c x) m (NotYet y b) at)
    where
      by : ((m < length es) × (slice_get es m ≡ Some (NotYet y b))) ⊎ ((m ≡ length es) × (Post c x ≡ NotYet y b)) → ⊥
      by (inl h) = d.unwaited m y b h.1
      by (inr h) = absurd (cc (h.1))

  posted : IsDriven start (es ++ Post c x ∷ []) (put flags c flag)
  posted = record { posts = record { each = each; not_both = not_both }; hints = hints; unwaited = unwaited }

pub driven_by_posts : DrivenByPosts
driven_by_posts start s es flags c x flag d ran may went = posted start s es flags c x flag d ran may went

-- ---- flags in a list

no_flags : (n : ℕ) (c : ℕ) → flags_of (replicate n false) c ≡ false
no_flags n zero = refl
no_flags zero (suc c) = refl
no_flags (suc n) (suc zero) = refl
no_flags (suc n) (suc (suc c)) = no_flags n (suc c)

written_flag : (flags : List Bool) (c q : ℕ) (flag : Bool) → suc c ≤ length flags → flags_of (slice_set flags c flag) q ≡ put (flags_of flags) (suc c) flag q
written_flag flags c zero flag le = sym (put_there (flags_of flags) (suc c) flag zero (λ e. absurd (omega (arith, e))))
written_flag flags c (suc q) flag le = by (cases_eq q c)
  where
    by : (q ≡ c) ⊎ (q ≢ c) → get_or (slice_set flags c flag) q false ≡ put (flags_of flags) (suc c) flag (suc q)
    by (inl is) =
        let lt : c < length flags = omega (arith, le) in
        let next : suc q ≡ suc c = ap (λ (n : ℕ). suc n) is in
        ap (λ (n : ℕ). get_or (slice_set flags c flag) n false) is ∙ get_or-set_same flags c flag false lt ∙ sym (ap (put (flags_of flags) (suc c) flag) next ∙ put_here (flags_of flags) (suc c) flag)
    by (inr ne) = get_or-set_other flags c q flag false ne ∙ sym (put_there (flags_of flags) (suc c) flag (suc q) (λ e. ne (omega (arith, e))))

pub listed_flags : ListedFlags
listed_flags = (λ n i c. no_flags n c i, λ flags c flag one within i q. by flags c flag one within q i)
  where
    by : (flags : List Bool) (c : ℕ) (flag : Bool) → 1 ≤ c → c ≤ length flags → (q : ℕ) → flags_of (slice_set flags (c - 1) flag) q ≡ put (flags_of flags) c flag q
    by flags c flag one within q =
        let next : suc (c - 1) ≡ c = omega (arith, one) in
        written_flag flags (c - 1) q flag (omega (arith, one, within)) ∙ ap (λ (n : ℕ). put (flags_of flags) n flag q) next
