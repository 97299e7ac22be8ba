-- What is known of a transfer of a state that is reached, and of what a set does with it.
use Rattle.std.proofs.Common.{◌≡◌, ℕ, true, List, [], ◌∷◌, Option, Some, None, Result, Ok, Err, slice_get, length, suc, refl, ap, subst, arith}
use Rattle.std.specs.Prelude.{map, ◌-◌}
use Rattle.std.specs.List.{last_or}
use Rattle.std.specs.Option.{option_map}
use Rattle.std.proofs.lemmas.Bool.Decides.{nat_tests}
use Rattle.vs_rows.specs.RowMap.{RowMap}
use Rattle.vs_send.specs.declared.transfer.Phase.{Phase}
use Rattle.vs_send.specs.declared.transfer.Phase.TheVariants.{Draining, Ready, Waiting, Copied, Sealed, WaitingLast, Refused, Done}
use Rattle.vs_send.specs.declared.transfer.Transfer.{Transfer}
use Rattle.vs_space.specs.declared.status.Status.{Status}
use Rattle.vs_space.specs.declared.status.Status.TheVariants.{Active}
use Rattle.vs_event.specs.declared.reason.Reason.{Reason}
use Rattle.vs_machine.specs.State as machine
use Rattle.vs_machine.specs.Inner.Buckets.{TransferFits}
use Rattle.vs_machine.specs.Inner.Phases.{PhaseFits}
use Rattle.vs_machine.specs.Kinds.Sender.{turns_of, freeze, after_freeze, chunk, after_chunk, sent_up_to, last_key, seal, after_seal, last, after_last}
use Rattle.vs_state.specs.Guard.{verdict}
use Rattle.vs_core.specs.Keeps.{IsKnown}

-- an event that is possible has a state after it
pub goes_on : (r : Result machine.State Reason) → verdict r ≡ Ok tt → (t : machine.State) × (r ≡ Ok t)
goes_on (Ok t) h = (t, refl)
goes_on (Err e) h = absurd (cc h)

-- ---- any transfer

module _ (s : machine.State) (known : IsKnown s) (x b : ℕ) (t : Transfer) (is : (s.bucket b).transfer x ≡ Some t) where
  pub fits : TransferFits (machine.sets_of s) (s.bucket b).entry (s.bucket b).rows x t
  fits = (known.whole.inner.buckets b).transfers x t is

  -- there is a connection to its receiver
  pub linked : machine.has_set s x ≡ true → machine.is_link s x t.dest ≡ true
  linked has = grind (arith, nat_tests, has, fits.within.0, fits.within.1, fits.apart)

-- ---- chunk

-- the key of the last row of a page
last_of : (rows : RowMap) (row : List ℕ × List ℕ) (o : Option (List ℕ)) → slice_get rows (length rows - 1) ≡ Some row → last_or o (map (λ row. row.0) rows) ≡ Some row.0
last_of [] row o is = absurd (cc is)
last_of (r ∷ []) row o is = ap (option_map (λ row. row.0)) is
last_of (r ∷ q ∷ rows) row o is =
    let before : length (r ∷ q ∷ rows) - 1 ≡ suc (length (q ∷ rows) - 1) = omega arith in
    last_of (q ∷ rows) row (Some r.0) (subst (λ n. slice_get (r ∷ q ∷ rows) n ≡ Some row) before is)

pub last_key_is : (rows : RowMap) (row : List ℕ × List ℕ) → slice_get rows (length rows - 1) ≡ Some row → last_key rows ≡ Some row.0
last_key_is rows row is = last_of rows row None is

module _ (s : machine.State) (x b : ℕ) (h : verdict (chunk s x b) ≡ Ok tt) where
  pub chunk_set : machine.has_set s x ≡ true
  chunk_set = grind (arith, h)

  module _ (t : Transfer) (is : (s.bucket b).transfer x ≡ Some t) where
    pub chunk_from : (k : Option (List ℕ)) × (sent_up_to t.phase ≡ Some k)
    chunk_from = by (sent_up_to t.phase) refl
      where
        by : (o : Option (Option (List ℕ))) → sent_up_to t.phase ≡ o → (k : Option (List ℕ)) × (sent_up_to t.phase ≡ Some k)
        by None none = absurd (grind (arith, h, is, none))
        by (Some k) some = (k, some)

    pub chunk_is : (k : Option (List ℕ)) → sent_up_to t.phase ≡ Some k → chunk s x b ≡ Ok (after_chunk s x b t k)
    chunk_is k from = grind (arith, h, is, from)

-- ---- last

module _ (s : machine.State) (x b : ℕ) (h : verdict (last s x b) ≡ Ok tt) where
  pub last_set : machine.has_set s x ≡ true
  last_set = grind (arith, h)

  pub last_is : (t : Transfer) → (s.bucket b).transfer x ≡ Some t → last s x b ≡ Ok (after_last s x b t)
  last_is t is = grind (arith, h, is)

-- ---- freeze and seal

draining_active : (d : ℕ) (has : Option Status) (p : Phase) (n : ℕ) → turns_of p ≡ Some n → PhaseFits d has p → has ≡ Some Active
draining_active d has (Draining m) n turns fits = fits
draining_active d has (Ready k) n turns fits = absurd (cc turns)
draining_active d has (Waiting e m k) n turns fits = absurd (cc turns)
draining_active d has Copied n turns fits = absurd (cc turns)
draining_active d has Sealed n turns fits = absurd (cc turns)
draining_active d has (WaitingLast e m) n turns fits = absurd (cc turns)
draining_active d has (Refused f) n turns fits = absurd (cc turns)
draining_active d has Done n turns fits = absurd (cc turns)

module _ (s : machine.State) (x b : ℕ) (h : verdict (freeze s x b) ≡ Ok tt) (t : Transfer) (is : (s.bucket b).transfer x ≡ Some t) where
  pub freeze_active : IsKnown s → (s.bucket b).entry x ≡ Some Active
  freeze_active known = by (turns_of t.phase) refl
    where
      by : (o : Option ℕ) → turns_of t.phase ≡ o → (s.bucket b).entry x ≡ Some Active
      by None none = absurd (grind (arith, h, is, none))
      by (Some n) some = draining_active t.dest ((s.bucket b).entry x) t.phase n some (fits s known x b t is).phase

  pub freeze_is : freeze s x b ≡ Ok (after_freeze s x b t)
  freeze_is = grind (arith, h, is)

module _ (s : machine.State) (x b : ℕ) (h : verdict (seal s x b) ≡ Ok tt) (t : Transfer) (is : (s.bucket b).transfer x ≡ Some t) where
  pub seal_is : seal s x b ≡ Ok (after_seal s x b t)
  seal_is = grind (arith, h, is)
