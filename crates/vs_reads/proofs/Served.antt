-- What the pool gives, and what is put out of it.
use Rattle.std.proofs.Common.{◌≡◌, ℕ, ◌-◌, ◌<◌, List, [], ◌∷◌, ◌++◌, append_assoc, Option, Some, Result, Ok, Err, length, map, get_or, slice_get, refl, ap, sym, ◌∙◌, subst, arith}
use Rattle.std.specs.Prelude.{All, IfOk, OnOk}
use Rattle.std.specs.Global.{Vec}
use Rattle.std.specs.Option.{option_map_or}
use Rattle.std.proofs.lemmas.Option.{slice_get_read}
use Rattle.atomic_table.specs.Seated.{TableId}
use Rattle.vs_base.specs.Listed.{Listed}
use Rattle.vs_machine.specs.Report.{answers_text}
use Rattle.vs_pool.specs.declared.job.Job.{Job}
use Rattle.vs_pool.specs.declared.job.JobResult.{JobResult}
use Rattle.vs_pool.specs.declared.job.JobResult.TheVariants.{Served, Closed}
use Rattle.vs_pool.specs.Results.{IsDone, IsFree, IsResultOf, IsWithin, Maps}
use Rattle.vs_rows.specs.declared.answer.Answer.{Answer}
use Rattle.vs_rows.specs.Operations.{answers_to}
use Rattle.vs_rows.specs.RowMap.{RowMap}
use Rattle.vs_rows.specs.Said.{Said, said_all}
use Rattle.vs_script.specs.Calls.{Call}
use Rattle.vs_script.specs.Lawful.{IsLawfulCall}
use Rattle.vs_words.specs.Standing.{IsNew, Standing}
use Rattle.vs_reads.specs.Jobs.{AreResults, AreWithin, HaveRows, read_in, rows_of}
use Rattle.vs_reads.specs.Reads.{reads_of, reads_text, rows_in}
use Rattle.vs_reads.proofs.Numbered.{are_within, same_text}

-- ---- before the pool

pub within_both : (maps words : ℕ) (jobs : List Job) → words ≡ maps → AreWithin maps jobs → All (IsWithin maps words) jobs
within_both maps words jobs same within k d below = let here = within k d below in (here, rw same here)

pub are_free : (words : TableId) (passes : List Standing) → All (IsNew words) passes → All (IsFree words) passes
are_free words passes are k d below = let new = are k d below in (new.0, new.1)

pub within_rows : (maps : Maps) (n : ℕ) (rows : ℕ → RowMap) (clients : List (List Call)) (jobs : List Job) → HaveRows maps n rows → All (All (IsLawfulCall n)) clients → map read_in jobs ≡ reads_of clients → AreWithin (length maps) jobs
within_rows maps n rows clients jobs have lawful are = subst (λ (k : ℕ). AreWithin k jobs) (sym have.count_is) (are_within n clients jobs lawful are)

-- ---- after it: which words were closed is forgotten

is_result : (maps : Maps) (IsClosed : ℕ → Type 0) (job : Job) (result : JobResult) → IsResultOf maps IsClosed job result → IsResultOf maps (λ _. Unit {0}) job result
is_result maps IsClosed job (Served answers) is = is
is_result maps IsClosed job Closed is = tt

pub are_results : (maps : Maps) (jobs : List Job) (results : List JobResult) (IsClosed : ℕ → Type 0) → length results ≡ length jobs → ((k : ℕ) (x : JobResult) → slice_get results k ≡ Some x → IsDone maps jobs IsClosed (k, x)) → AreResults maps jobs results
are_results maps jobs results IsClosed count each = record { count_is = count; each = λ k x at. let done = each k x at in (done.0, done.1, is_result maps IsClosed done.0 x done.2) }

pub result_at : (maps : Maps) (jobs : List Job) (results : List JobResult) (i : ℕ) (job : Job) (result : JobResult) → AreResults maps jobs results → i < length jobs → job ≡ get_or jobs i job → result ≡ get_or results i result
    → IsResultOf maps (λ _. Unit {0}) job result
result_at maps jobs results i job result are within job_is result_is =
    let below : i < length results = omega (arith, within, are.count_is) in
    let done = are.each i result (slice_get_read results (length results) i result refl below result_is) in
    let found : Some done.0 ≡ Some job = sym done.1 ∙ slice_get_read jobs (length jobs) i job refl within job_is in
    let same : done.0 ≡ job = cc found in
    subst (λ (j : Job). IsResultOf maps (λ _. Unit {0}) j result) same done.2

-- ---- the rows of a bucket

abbrev RowList : Type 0
RowList = Listed (List ℕ × List ℕ)

pub rows_there : (maps : Maps) (bucket : ℕ) (rows : RowList) → slice_get maps (bucket - 1) ≡ Some rows → rows_of maps bucket ≡ rows.items
rows_there maps bucket rows at = ap (λ (o : Option RowList). option_map_or (λ (m : RowList). m.items) o []) at

pub rows_found : (maps : Maps) (bucket number : ℕ) (rows : RowList) → number ≡ bucket → number - 1 < length maps → rows ≡ get_or maps (number - 1) rows → rows_of maps bucket ≡ rows.items
rows_found maps bucket number rows same within is =
    let at = slice_get_read maps (length maps) (number - 1) rows refl within is in
    rows_there maps bucket rows (subst (λ (b : ℕ). slice_get maps (b - 1) ≡ Some rows) same at)

pub answers_served : (maps : Maps) (job : Job) (answers : Listed Answer) → IsResultOf maps (λ _. Unit {0}) job (Served answers) → said_all answers.items ≡ answers_to (rows_of maps job.bucket) job.ops.items
answers_served maps job answers is = is.2 ∙ ap (λ (m : RowMap). answers_to m job.ops.items) (sym (rows_there maps job.bucket is.0 is.1))

-- ---- the texts

pub text_after : {U E : Type 0} (r : Result U E) (old mid new : List ℕ) (said wanted : List Said) → mid ≡ old ++ 32 ∷ [] → said ≡ wanted → OnOk r (new ≡ mid ++ answers_text said) → OnOk r (new ≡ old ++ 32 ∷ answers_text wanted)
text_after (Ok u) old mid new said wanted blank same is =
    is ∙ (ap (λ (m : List ℕ). m ++ answers_text said) blank ∙ (append_assoc old (32 ∷ []) (answers_text said) ∙ ap (λ (s : List Said). old ++ 32 ∷ answers_text s) same))
text_after (Err e) old mid new said wanted blank same is = tt

pub text_is : {E : Type 0} (r : Result (Vec ℕ) E) (maps : Maps) (jobs : List Job) (n : ℕ) (writes : List Call) (clients : List (List Call)) → HaveRows maps n (rows_in writes) → All (All (IsLawfulCall n)) clients → map read_in jobs ≡ reads_of clients
    → IfOk r (λ t. t.items ≡ reads_text (rows_of maps) (map read_in jobs)) → IfOk r (λ t. t.items ≡ reads_text (rows_in writes) (reads_of clients))
text_is (Ok t) maps jobs n writes clients have lawful are is = is ∙ (ap (reads_text (rows_of maps)) are ∙ same_text maps n (rows_in writes) clients have lawful)
text_is (Err e) maps jobs n writes clients have lawful are is = tt
