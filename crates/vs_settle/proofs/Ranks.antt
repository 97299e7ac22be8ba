-- What an entry of each rank is.
use Rattle.std.proofs.Common.{◌≡◌, ℕ, ◌<◌, ◌≤◌, refl, ap, arith, true, false, Option, Some, None}
use Rattle.vs_space.specs.declared.status.Status.{Status}
use Rattle.vs_space.specs.declared.status.Status.TheVariants.{Active, Pinned, Sending, Receiving, Sent, Garbage}
use Rattle.vs_machine.specs.State.{State}
use Rattle.vs_machine.specs.Kinds.Collection.{is_sent, is_garbage}
use Rattle.vs_machine.specs.Kinds.Connections.{asked_set}
use Rattle.vs_world.specs.Played.{Played, state_of}
use Rattle.vs_settle.specs.Tasks.{CanAsk, CanCollect, IsDone, IsNextEntry, rank, sender_in, receiver_in}
use Rattle.vs_settle.proofs.Settled.{receiver_settles, sender_settles}

-- ---- an entry that is received, or sent

pub sender_named : (e : Option Status) (y : ℕ) → sender_in e ≡ Some y → e ≡ Some (Receiving y)
sender_named (Some (Receiving x)) y h = cc
sender_named None y h = absurd cc
sender_named (Some Active) y h = absurd cc
sender_named (Some Pinned) y h = absurd cc
sender_named (Some (Sending d)) y h = absurd cc
sender_named (Some (Sent d)) y h = absurd cc
sender_named (Some Garbage) y h = absurd cc

pub not_received : (e : Option Status) → sender_in e ≡ None → rank e < 3
not_received (Some (Receiving x)) h = absurd cc
not_received None h = omega arith
not_received (Some Active) h = omega arith
not_received (Some Pinned) h = omega arith
not_received (Some (Sending d)) h = omega arith
not_received (Some (Sent d)) h = omega arith
not_received (Some Garbage) h = omega arith

pub receiver_named : (e : Option Status) (y : ℕ) → receiver_in e ≡ Some y → e ≡ Some (Sending y)
receiver_named (Some (Sending d)) y h = cc
receiver_named None y h = absurd cc
receiver_named (Some Active) y h = absurd cc
receiver_named (Some Pinned) y h = absurd cc
receiver_named (Some (Receiving x)) y h = absurd cc
receiver_named (Some (Sent d)) y h = absurd cc
receiver_named (Some Garbage) y h = absurd cc

pub not_sent : (e : Option Status) → receiver_in e ≡ None → rank e ≤ 2 → rank e < 2
not_sent (Some (Sending d)) h low = absurd cc
not_sent (Some (Receiving x)) h low = absurd (omega (arith, low))
not_sent None h low = omega arith
not_sent (Some Active) h low = omega arith
not_sent (Some Pinned) h low = omega arith
not_sent (Some (Sent d)) h low = omega arith
not_sent (Some Garbage) h low = omega arith

pub receiver_asks : (s : State) (x b y : ℕ) → IsNextEntry s x b 3 → sender_in ((s.bucket b).entry x) ≡ Some y → CanAsk s x b y
receiver_asks s x b y next h =
    let at = sender_named ((s.bucket b).entry x) y h in
    record { rests = next.rests; silent = next.silent; set = next.set; bucket = next.bucket; named = ap asked_set at; decides = receiver_settles s x b y next.rests at }

pub sender_asks : (s : State) (x b y : ℕ) → IsNextEntry s x b 2 → receiver_in ((s.bucket b).entry x) ≡ Some y → CanAsk s x b y
sender_asks s x b y next h =
    let at = receiver_named ((s.bucket b).entry x) y h in
    record { rests = next.rests; silent = next.silent; set = next.set; bucket = next.bucket; named = ap asked_set at; decides = sender_settles s x b y next.rests at next.ranks }

-- ---- an entry that is settled already

pub done_already : (p : Played) (m x b j k : ℕ) → IsNextEntry (state_of p) x b j → rank (((state_of p).bucket b).entry x) < k → IsDone p m p m x b k
done_already p m x b j k next low = record { paid = omega arith; silent = next.silent; rank_is = low; sets = λ y ne. refl; buckets = λ c ne. refl }

pub sent_is : (e : Option Status) → is_sent e ≡ true → (d : ℕ) × (e ≡ Some (Sent d))
sent_is (Some (Sent d)) h = (d, refl)
sent_is None h = absurd cc
sent_is (Some Active) h = absurd cc
sent_is (Some Pinned) h = absurd cc
sent_is (Some (Sending d)) h = absurd cc
sent_is (Some (Receiving x)) h = absurd cc
sent_is (Some Garbage) h = absurd cc

pub garbage_is : (e : Option Status) → is_garbage e ≡ true → e ≡ Some Garbage
garbage_is (Some Garbage) h = refl
garbage_is None h = absurd cc
garbage_is (Some Active) h = absurd cc
garbage_is (Some Pinned) h = absurd cc
garbage_is (Some (Sending d)) h = absurd cc
garbage_is (Some (Receiving x)) h = absurd cc
garbage_is (Some (Sent d)) h = absurd cc

-- an entry of rank 1 is one that was sent, or garbage
pub leaving_gone : (e : Option Status) → rank e ≤ 1 → is_sent e ≡ false → is_garbage e ≡ false → rank e < 1
leaving_gone None low sent garbage = omega arith
leaving_gone (Some Active) low sent garbage = omega arith
leaving_gone (Some Pinned) low sent garbage = omega arith
leaving_gone (Some (Sending d)) low sent garbage = absurd (omega (arith, low))
leaving_gone (Some (Receiving x)) low sent garbage = absurd (omega (arith, low))
leaving_gone (Some (Sent d)) low sent garbage = absurd cc
leaving_gone (Some Garbage) low sent garbage = absurd cc

pub leaving_collects : (s : State) (x b : ℕ) → IsNextEntry s x b 1 → (s.bucket b).entry x ≡ Some Garbage → CanCollect s x b
leaving_collects s x b next at = record { rests = next.rests; silent = next.silent; set = next.set; bucket = next.bucket; garbage = at }
