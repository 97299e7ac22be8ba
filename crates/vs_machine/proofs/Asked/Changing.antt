-- What a change of one bucket, or of one connection, leaves to the asks and to the answers under way.
use Rattle.std.proofs.Common.{◌≡◌, ℕ, inl, inr, Bool, true, false, refl, sym, ap, subst, ◌∙◌, arith, Option, Some, None, List, get_or, [], ◌∷◌, ◌++◌}
use Rattle.std.specs.Prelude.{◌≢◌, ◌⊎◌, Contains, All}
use Rattle.std.proofs.lemmas.Bool.{cases_eq}
use Rattle.std.proofs.lemmas.List.Elements.{Contains-append_left, Contains-append_cases, Contains-push, Contains-push_cases}
use Rattle.vs_space.specs.declared.reply.Reply.{Reply}
use Rattle.vs_space.specs.declared.reply.Reply.TheVariants as reply
use Rattle.vs_space.specs.declared.status.Status.{Status}
use Rattle.vs_space.specs.declared.status.Status.TheVariants.{Active, Pinned, Sending, Receiving, Sent, Garbage}
use Rattle.vs_link.specs.Connection.{Connection, Message, Stat, bucket_of, rest, closed, with_message}
use Rattle.vs_link.specs.Connection as link
use Rattle.vs_link.specs.declared.message.Heard.{Heard}
use Rattle.vs_send.specs.declared.transfer.Transfer.{Transfer}
use Rattle.vs_machine.specs.Tables.{put, put_at}
use Rattle.vs_machine.specs.State.{State, Bucket, Ask, with_transfer}
use Rattle.vs_machine.specs.Kinds.Connections.{asked_set, answered}
use Rattle.vs_machine.specs.Inner.Asks.{AskFits, IsFound, AnswerFits, AnswerSays, HeardSays, IsOpen, AsksFit}
use Rattle.vs_machine.specs.Inner.Down.{IsUp, UpFits}
use Rattle.vs_machine.proofs.Calm.{Calm, phase_calm}
use Rattle.vs_machine.proofs.Frame.{put_each, put_others, put_pair, put_split}

-- the asks of one bucket stand where they may, and an answer says what it says of it
abbrev pub AsksOf : Bucket → Type 0
AsksOf b = (x : ℕ) (a : Ask) → b.ask x ≡ Some a → AskFits (b.entry x) (b.transfer x)

abbrev pub SaysOf : ℕ → ℕ → Bucket → ℕ → ℕ → ℕ → Reply → Type 0
SaysOf o e b x y n r = AnswerSays o e b.entry b.transfer b.ask x y n r

-- what a change of one bucket, which o owns and then p, has to keep
pub record KeepsAsks (s : State) (o p : ℕ) (old new : Bucket) : Type 0 where
  pub asks : AsksOf new
  pub same : (x : ℕ) (a : Ask) → new.ask x ≡ Some a → (old.ask x ≡ Some a) × (new.entry x ≡ old.entry x)
  pub answers : (e x y n : ℕ) (r : Reply) → IsUp s x × IsUp s y → SaysOf o e old x y n r → SaysOf p e new x y n r

-- an answer lies only between sets that are up
abbrev pub Both : State → ℕ → ℕ → Type 0
Both s z x = IsUp s x × IsUp s z

-- nothing is asked here of rows that are pending
abbrev pub Never : ℕ → Type 0
Never x = ⊥

-- the asks that are left are those of others
abbrev pub Ends : Bucket → Bucket → ℕ → Type 0
Ends old new z = (x : ℕ) (a : Ask) → new.ask x ≡ Some a → (x ≢ z) × (old.ask x ≡ Some a)

pub touched : (s : State) (o p : ℕ) (old new : Bucket) (z : ℕ) → AsksOf old → Ends old new z → Calm (Both s z) (Both s z) Never o p old.entry old.transfer new.entry new.transfer z → KeepsAsks s o p old new
touched s o p old new z af ended t = record {
  asks = λ x a h. let e = ended x a h in subst (λ u. AskFits u (new.transfer x)) (sym (t.entries x e.0)) (subst (AskFits (old.entry x)) (sym (t.transfers x e.0)) (af x a e.1));
  same = λ x a h. let e = ended x a h in (e.1, t.entries x e.0);
  answers = answers;
}
  where
    by_found : (x y d : ℕ) → x ≢ z → IsUp s x × IsUp s y → old.entry x ≡ Some (Receiving d) → asked_set (Some (Receiving d)) ≡ Some y → (st : Option Status) (live : Bool) → IsFound o old.entry old.transfer x y st live → IsFound p new.entry new.transfer x y st live
    by_found x y d ne up is nm None live h = t.owner x d ne is h
    by_found x y d ne up is nm (Some (Sent c)) live h = t.owner x d ne is h
    by_found x y d ne up is nm (Some Garbage) live h = t.owner x d ne is h
    by_found x y d ne up is nm (Some Active) live h = h
    by_found x y d ne up is nm (Some Pinned) live h = h
    by_found x y d ne up is nm (Some (Receiving c)) live h = tt
    by_found x y d ne up is nm (Some (Sending c)) true h = tt
    by_found x y d ne up is nm (Some (Sending c)) false h = elim (cases_eq y z) [
      | inl e ↦
          let from : old.entry x ≡ Some (Receiving z) = let same : d ≡ z = cc in is ∙ ap (λ u. Some (Receiving u)) same in
          subst (λ q. (new.entry q ≡ Some (Sending x)) × (new.transfer q ≡ None)) (sym e) (t.still x (up.0, subst (IsUp s) e up.1) from (subst (λ q. old.entry q ≡ Some (Sending x)) e h.0) (subst (λ q. old.transfer q ≡ None) e h.1))
      | inr other ↦ (t.entries y other ∙ h.0, t.transfers y other ∙ h.1)
    ]

    by_local : (x y : ℕ) (st : Option Status) (live : Bool) → x ≢ z → IsUp s x × IsUp s y → (local : Option Status) → old.entry x ≡ local → AskFits local (old.transfer x) → asked_set local ≡ Some y → AnswerFits o old.entry old.transfer x y local st live → AnswerFits p new.entry new.transfer x y local st live
    by_local x y st live ne up None is f nm h = tt
    by_local x y st live ne up (Some Active) is f nm h = tt
    by_local x y st live ne up (Some Pinned) is f nm h = tt
    by_local x y st live ne up (Some (Sent d)) is f nm h = tt
    by_local x y st live ne up (Some Garbage) is f nm h = tt
    by_local x y st live ne up (Some (Sending d)) is f nm h = λ gone. elim (cases_eq y z) [
      | inl e ↦
          let to : old.entry x ≡ Some (Sending z) = let same : d ≡ z = cc in is ∙ ap (λ u. Some (Sending u)) same in
          subst (λ q. new.entry q ≢ Some (Receiving x)) (sym e) (t.away x (up.0, subst (IsUp s) e up.1) to f (subst (λ q. old.entry q ≢ Some (Receiving x)) e (h gone)))
      | inr other ↦ subst (λ u. u ≢ Some (Receiving x)) (sym (t.entries y other)) (h gone)
    ]
    by_local x y st live ne up (Some (Receiving d)) is f nm h = by_found x y d ne up is nm st live h

    answers : (e x y n : ℕ) (r : Reply) → IsUp s x × IsUp s y → SaysOf o e old x y n r → SaysOf p e new x y n r
    answers e x y n reply.Took up says = tt
    answers e x y n (reply.Not f) up says = tt
    answers e x y n (reply.State st live) up says = λ asks named.
        let at = ended x _ asks in
        let same = t.entries x at.0 in
        let before : asked_set (old.entry x) ≡ Some y = ap asked_set (sym same) ∙ named in
        subst (λ u. AnswerFits p new.entry new.transfer x y u st live) (sym same) (by_local x y st live at.0 up (old.entry x) refl (af x _ at.1) before (says at.1 before))

-- nothing of it changes
pub same_asks : (s : State) (o : ℕ) (old new : Bucket) → AsksOf old → new.entry ≡ old.entry → new.transfer ≡ old.transfer → new.ask ≡ old.ask → KeepsAsks s o o old new
same_asks s o old new af entries transfers asks =
    let still : Bucket = record new { entry = old.entry; transfer = old.transfer; ask = old.ask } in
    let kept : KeepsAsks s o o old still = record { asks = af; same = λ x a h. (h, refl); answers = λ e x y n r up h. answer e x y n r h } in
    subst (λ (g : ℕ → Option Status). KeepsAsks s o o old (record new { entry = g })) (sym entries)
    (subst (λ (g : ℕ → Option Transfer). KeepsAsks s o o old (record new { entry = old.entry; transfer = g })) (sym transfers)
    (subst (λ (g : ℕ → Option Ask). KeepsAsks s o o old (record new { entry = old.entry; transfer = old.transfer; ask = g })) (sym asks) kept))
  where
    answer : (e x y n : ℕ) (r : Reply) → SaysOf o e old x y n r → AnswerSays o e old.entry old.transfer old.ask x y n r
    answer e x y n r h = h

-- ---- one bucket changes, and the lines are as they were

kept_list : (s : State) (own later : ℕ → ℕ) (b : ℕ) (new : Bucket) (e x y : ℕ) (rs : List Heard) → ((q : ℕ) → q ≢ b → later q ≡ own q) → KeepsAsks s (own b) (later b) (s.bucket b) new → All (λ r. IsUp s x × IsUp s y) rs
    → All (HeardSays own e s.bucket x y) rs → All (HeardSays later e (put s.bucket b new) x y) rs
kept_list s own later b new e x y rs same keeps ups says k d lt =
    let r = get_or rs k d in
    put_others (λ q (u : Bucket). SaysOf (own q) e (s.bucket q) x y r.sync r.reply → SaysOf (later q) e u x y r.sync r.reply) s.bucket b new (keeps.answers e x y r.sync r.reply (ups k d lt))
    (λ q ne. subst (λ o. SaysOf (own q) e (s.bucket q) x y r.sync r.reply → SaysOf o e (s.bucket q) x y r.sync r.reply) (sym (same q ne)) (λ h. h)) r.bucket (says k d lt)

pub one_bucket : (s : State) (own later : ℕ → ℕ) (b : ℕ) (new : Bucket) → ((q : ℕ) → q ≢ b → later q ≡ own q) → KeepsAsks s (own b) (later b) (s.bucket b) new → UpFits s → AsksFit own s.bucket s.link → AsksFit later (put s.bucket b new) s.link
one_bucket s own later b new same keeps u a = record {
  asks = put_each (λ q. AsksOf) s.bucket b new keeps.asks a.asks;
  sought = put_each (λ q (n : Bucket). (x : ℕ) (v : Ask) → n.ask x ≡ Some v → (y : ℕ) → asked_set (n.entry x) ≡ Some y → IsOpen (s.link x y) v q) s.bucket b new
      (λ x v h y nm. let e = keeps.same x v h in a.sought b x v e.0 y (subst (λ w. asked_set w ≡ Some y) e.1 nm)) a.sought;
  answers = λ x y. kept_list s own later b new (s.link x y).epoch x y (s.link x y).replies same keeps (u.replies x y) (a.answers x y);
}

-- ---- the lines of a connection change

pub one_link : (own : ℕ → ℕ) (bs : ℕ → Bucket) (ls : ℕ → ℕ → Connection) (x y : ℕ) (l : Connection) → All (HeardSays own l.epoch bs x y) l.replies
    → ((b : ℕ) (v : Ask) → (bs b).ask x ≡ Some v → asked_set ((bs b).entry x) ≡ Some y → IsOpen (ls x y) v b → IsOpen l v b) → AsksFit own bs ls → AsksFit own bs (put_at ls x y l)
one_link own bs ls x y l says opens a = record {
  asks = a.asks;
  sought = λ b z v h w nm. put_pair (λ p q (k : Connection). (bs b).ask p ≡ Some v → asked_set ((bs b).entry p) ≡ Some q → IsOpen (ls p q) v b → IsOpen k v b) ls x y l (opens b v) (λ p q _ _ g. g) z w h nm (a.sought b z v h w nm);
  answers = put_pair (λ z w (v : Connection). All (HeardSays own v.epoch bs z w) v.replies) ls x y l says a.answers;
}

-- a message is put at the end
pub open_sent : (l : Connection) (m : Message) (v : Ask) (b : ℕ) → IsOpen l v b → IsOpen (with_message l m) v b
open_sent l m v b h = (h.0, λ e. elim (h.1 e) [ inl c ↦ inl (Contains-append_left l.calls ((record { sync = l.next; message = m }) ∷ []) _ c) | inr r ↦ inr r ])

pub nowhere : {A : Type 0} {y : A} → Contains [] y → ⊥
nowhere c = absurd (omega (arith, c.1))

-- one is the first of a list, or among the rest
pub first_or_rest : {A : Type 0} (x : A) (xs : List A) (y : A) → Contains (x ∷ xs) y → (x ≡ y) ⊎ Contains xs y
first_or_rest x xs y h = elim (Contains-append_cases (x ∷ []) xs y h) [
  | inl c ↦ elim (Contains-push_cases [] x y c) [ inl z ↦ absurd (nowhere z) | inr e ↦ inl e ]
  | inr c ↦ inr c
]

-- the first message is answered: a question by a status
pub open_answered : (l : Connection) (m : link.Sent) (r : Reply) (v : Ask) (b : ℕ) → l.calls ≡ m ∷ rest l.calls → (m.message ≡ Stat b → (st : Option Status) × (live : Bool) × (r ≡ reply.State st live)) → IsOpen l v b → IsOpen (answered l m r) v b
open_answered l m r v b is answers h = (
  h.0,
  λ e. elim (h.1 e) [
    | inl c ↦ elim (first_or_rest m (rest l.calls) (record { sync = v.sync; message = Stat b }) (subst (λ ms. Contains ms (record { sync = v.sync; message = Stat b })) is c)) [
      | inl g ↦
          let w = answers (ap (λ (q : link.Sent). q.message) g) in
          let said : Heard = record { sync = m.sync; bucket = bucket_of m.message; reply = r } in
          let same : said ≡ record { sync = v.sync; bucket = b; reply = reply.State w.0 w.1 } =
          λ j. record { sync = ap (λ (q : link.Sent). q.sync) g j; bucket = ap (λ (q : link.Sent). bucket_of q.message) g j; reply = w.2 j } in
          inr (w.0, w.1, subst (Contains (l.replies ++ said ∷ [])) same (Contains-push l.replies said))
      | inr g ↦ inl g
    ]
    | inr w ↦ inr (w.0, w.1, Contains-append_left l.replies _ _ w.2)
  ],
)

-- a connection is closed: what was asked over it isn't live any more
pub open_closed : (l : Connection) (v : Ask) (b : ℕ) → IsOpen l v b → IsOpen (closed l) v b
open_closed l v b h = (let le = h.0 in omega arith, λ e. let le = h.0 in absurd (omega arith))

-- ---- the asks that are left

-- z hasn't asked
pub none_ends : (b : Bucket) (z : ℕ) → AsksOf b → (AskFits (b.entry z) (b.transfer z) → ⊥) → (x : ℕ) (a : Ask) → b.ask x ≡ Some a → (x ≢ z) × (b.ask x ≡ Some a)
none_ends b z af never x a h = (λ e. never (af z a (subst (λ q. b.ask q ≡ Some a) e h)), h)

-- or its ask ended
pub put_ends : (b : Bucket) (z x : ℕ) (a : Ask) → put b.ask z None x ≡ Some a → (x ≢ z) × (b.ask x ≡ Some a)
put_ends b z x a h = elim (put_split b.ask z None x (Some a) h) [ inl e ↦ absurd (cc (e.1)) | inr e ↦ e ]

-- a transfer changes at a set that hasn't asked, and isn't sending without one
pub phase_asks : (s : State) (o : ℕ) (b : Bucket) (x : ℕ) (v : Option Transfer) → AsksOf b → (AskFits (b.entry x) (b.transfer x) → ⊥) → KeepsAsks s o o b (with_transfer b x v)
phase_asks s o b x v af never = touched s o o b (with_transfer b x v) x af (none_ends b x af never) (phase_calm (Both s x) (Both s x) Never o b.entry b.transfer x v never (λ w k. absurd k))
