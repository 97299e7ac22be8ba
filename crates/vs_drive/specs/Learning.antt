-- What a client's driver learns of where buckets are.
use Rattle.std.specs.Prelude.{◌≡◌, ◌+◌, ◌-◌, ◌≤◌, ℕ, true, List, length, slice_get, Option, Some, None, if◌then◌else◌}
use Rattle.vs_calls.specs.Progress.{Progress, is_refused}
use Rattle.vs_machine.specs.State.{State, has_set, next_call}
use Rattle.vs_router.specs.Known.{Learns, Sets, known_of, after_refusal}
use Rattle.vs_script.specs.Calls.{Call}
use Rattle.vs_space.specs.declared.status.Cause.{Cause}
use Rattle.vs_survey.specs.Readers as readers
use Rattle.vs_drive.specs.Drivers.{client_of, known_to}
use Rattle.vs_drive.specs.declared.client.ClientDriver.{ClientDriver}
use Rattle.vs_drive.specs.declared.client.NextPage.{NextPage}

-- ---- the pages of the sets, one set after another

abbrev pub first_page : NextPage
first_page = record { set = 1; after = None }

-- the first page of the set after this one, where there is one
abbrev pub page_of_next : State → ℕ → Option NextPage
page_of_next s x = if has_set s (x + 1) then Some (record { set = x + 1; after = None }) else None

-- the page after one that ends so: of the same set, and of the next one after an empty page
abbrev pub page_by_end : State → ℕ → Option ℕ → Option NextPage
page_by_end s x (Some b) = Some (record { set = x; after = Some b })
page_by_end s x None = page_of_next s x

abbrev pub page_after : State → NextPage → List ℕ → Option NextPage
page_after s page ids = page_by_end s page.set (slice_get ids (length ids - 1))

-- the router was made for this cluster, of which the page's set is one
pub record IsWithin (s : State) (page : NextPage) (d : ClientDriver) : Type 0 where
  pub buckets : length (known_to d) ≡ s.config.bucket_count
  pub set : has_set s page.set ≡ true

-- the buckets of the page are known to be at its set, and the next page is the one after it
pub record IsLearned (s : State) (page : NextPage) (old new : ClientDriver) : Type 0 where
  pub learns : IsWithin s page old → Learns (known_to old) (known_to new) page.set (readers.page s page.set page.after)
  pub next : IsWithin s page old → new.next_page ≡ page_after s page (readers.page s page.set page.after)
  pub ends : ¬ (IsWithin s page old) → (known_to new ≡ known_to old) × (new.next_page ≡ None)

-- ---- refusals

-- why the call was refused, where it was and wasn't posted again
abbrev pub refusal : Progress → Option Cause
refusal p = if is_refused p.stage then p.cause else None

-- the refusal of the client's call corrects what the router has of its bucket
pub record HasHeard (s : State) (old new : ClientDriver) : Type 0 where
  pub corrects : (cause : Cause) (k : Call) → refusal (s.client (client_of old)).present ≡ Some cause → next_call (s.client (client_of old)) ≡ Some k → k.bucket ≤ length (known_to old)
      → Sets (known_to old) (known_to new) k.bucket (after_refusal (known_of (known_to old) k.bucket) cause)
  pub keeps : refusal (s.client (client_of old)).present ≡ None → known_to new ≡ known_to old
