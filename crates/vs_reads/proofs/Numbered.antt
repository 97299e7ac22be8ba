-- Calls and clients that are numbered one after the other, and the texts of their answers.
use Rattle.std.proofs.Common.{◌≡◌, ℕ, zero, suc, ◌+◌, ◌≤◌, List, [], ◌∷◌, ◌++◌, length, map, refl, ap, sym, ◌∙◌, append-nil, append_assoc, arith}
use Rattle.std.specs.Prelude.{All, codes}
use Rattle.std.specs.List.{flat_map, enumerate_from}
use Rattle.std.proofs.lemmas.List.{map-append, length-map}
use Rattle.std.proofs.lemmas.List.Elements.{All-append, All-nil}
use Rattle.std.proofs.lemmas.Grind.{flat_map-append}
use Rattle.vs_machine.specs.Report.{lines, number}
use Rattle.vs_pool.specs.declared.job.Job.{Job}
use Rattle.vs_pool.specs.Results.{Maps}
use Rattle.vs_rows.specs.RowMap.{RowMap}
use Rattle.vs_base.specs.Listed.{Listed}
use Rattle.vs_script.specs.Calls.{Call, call, calls}
use Rattle.vs_script.specs.declared.call.Call as code
use Rattle.vs_script.specs.Lawful.{IsLawfulCall, IsWithin}
use Rattle.vs_reads.specs.Jobs.{AreWithin, HaveRows, read_in, rows_of}
use Rattle.vs_reads.specs.Reads.{Read, read, client_reads, reads_of, read_text, reads_text}

abbrev pub ClientList : Type 0
ClientList = List (Listed code.Call)

abbrev pub plain : ClientList → List (List Call)
plain clients = map (λ (c : Listed code.Call). calls c.items) clients

enumerate_from-append : {X : Type 0} (n : ℕ) (xs : List X) (x : X) → enumerate_from n (xs ++ x ∷ []) ≡ enumerate_from n xs ++ (n + length xs, x) ∷ []
enumerate_from-append {X} n [] x =
    let at : n ≡ n + length {A = X} [] = omega arith in
    ap (λ (k : ℕ). (k, x) ∷ []) at
enumerate_from-append {X} n (y ∷ xs) x =
    let at : (n + 1) + length xs ≡ n + length (y ∷ xs) = omega arith in
    ap (λ (l : List (ℕ × X)). (n, y) ∷ l) (enumerate_from-append (n + 1) xs x ∙ ap (λ (k : ℕ). enumerate_from (n + 1) xs ++ (k, x) ∷ []) at)

pub one_read_more : (client : ℕ) (ks : List Call) (k : Call) (number : ℕ) → number ≡ length ks + 1 → client_reads client (ks ++ k ∷ []) ≡ client_reads client ks ++ read client (number, k) ∷ []
one_read_more client ks k number is =
    let at : 1 + length ks ≡ number = omega arith in
    ap (map (read client)) (enumerate_from-append 1 ks k ∙ ap (λ (n : ℕ). enumerate_from 1 ks ++ (n, k) ∷ []) at)
    ∙ map-append (read client) (enumerate_from 1 ks) ((number, k) ∷ [])

abbrev reads_in : ℕ × List Call → List Read
reads_in (client, calls) = client_reads client calls

pub one_client_more : (clients : List (List Call)) (ks : List Call) (number : ℕ) → number ≡ length clients + 1 → reads_of (clients ++ ks ∷ []) ≡ reads_of clients ++ client_reads number ks
one_client_more clients ks number is =
    let at : 1 + length clients ≡ number = omega arith in
    ap (flat_map reads_in) (enumerate_from-append 1 clients ks ∙ ap (λ (n : ℕ). enumerate_from 1 clients ++ (n, ks) ∷ []) at)
    ∙ (flat_map-append reads_in (enumerate_from 1 clients) ((number, ks) ∷ []) ∙ ap (λ (rs : List Read). reads_of clients ++ rs) (append-nil (client_reads number ks)))

-- ---- jobs, one after the other

pub one_job_more : (client number : ℕ) (before after : List Job) (base : List Read) (job : Job) (given : List code.Call) (k : code.Call) → after ≡ before ++ job ∷ [] → map read_in before ≡ base ++ client_reads client (calls given) → read_in job ≡ read client (number, call k) → number ≡ length given + 1
    → map read_in after ≡ base ++ client_reads client (calls (given ++ k ∷ []))
one_job_more client number before after base job given k is so_far reads at =
    let len : length (calls given) ≡ length given = length-map given call in
    let more : client_reads client (calls (given ++ k ∷ [])) ≡ client_reads client (calls given) ++ read client (number, call k) ∷ [] = ap (client_reads client) (map-append call given (k ∷ [])) ∙ one_read_more client (calls given) (call k) number (omega (arith, at, len)) in
    ap (map read_in) is
    ∙ (map-append read_in before (job ∷ [])
    ∙ (ap (λ (l : List Read). l ++ read_in job ∷ []) so_far
    ∙ (ap (λ (r : Read). (base ++ client_reads client (calls given)) ++ r ∷ []) reads
    ∙ (append_assoc base (client_reads client (calls given)) (read client (number, call k) ∷ []) ∙ ap (λ (l : List Read). base ++ l) (sym more)))))

pub one_given_more : (number : ℕ) (before after : List Job) (given : ClientList) (one : Listed code.Call) → map read_in before ≡ reads_of (plain given) → map read_in after ≡ map read_in before ++ client_reads number (calls one.items) → number ≡ length given + 1
    → map read_in after ≡ reads_of (plain (given ++ one ∷ []))
one_given_more number before after given one so_far more at =
    let len : length (plain given) ≡ length given = length-map given (λ (c : Listed code.Call). calls c.items) in
    let all : reads_of (plain (given ++ one ∷ [])) ≡ reads_of (plain given) ++ client_reads number (calls one.items) = ap reads_of (map-append (λ (c : Listed code.Call). calls c.items) given (one ∷ [])) ∙ one_client_more (plain given) (calls one.items) number (omega (arith, at, len)) in
    more ∙ (ap (λ (l : List Read). l ++ client_reads number (calls one.items)) so_far ∙ sym all)

-- ---- the buckets of reads

abbrev IsRead : ℕ → Read → Type 0
IsRead n r = IsWithin n r.bucket

tail_all : {X : Type 0} (P : X → Type 0) (x : X) (xs : List X) → All P (x ∷ xs) → All P xs
tail_all P x xs all k d below = all (suc k) d (omega arith)

head_is : {X : Type 0} (P : X → Type 0) (x : X) (xs : List X) → All P (x ∷ xs) → P x
head_is P x xs all = all zero x (omega arith)

cons_all : {X : Type 0} (P : X → Type 0) (x : X) (xs : List X) → P x → All P xs → All P (x ∷ xs)
cons_all P x xs here all zero d below = here
cons_all P x xs here all (suc k) d below = all k d (omega arith)

client_within : (n client number : ℕ) (ks : List Call) → All (IsLawfulCall n) ks → All (IsRead n) (map (read client) (enumerate_from number ks))
client_within n client number [] all = All-nil (IsRead n)
client_within n client number (k ∷ ks) all =
    cons_all (IsRead n) (read client (number, k)) (map (read client) (enumerate_from (number + 1) ks)) (head_is (IsLawfulCall n) k ks all).bucket (client_within n client (number + 1) ks (tail_all (IsLawfulCall n) k ks all))

all_within : (n client : ℕ) (clients : List (List Call)) → All (All (IsLawfulCall n)) clients → All (IsRead n) (flat_map reads_in (enumerate_from client clients))
all_within n client [] all = All-nil (IsRead n)
all_within n client (ks ∷ clients) all =
    All-append (IsRead n) (client_reads client ks) (flat_map reads_in (enumerate_from (client + 1) clients)) (client_within n client 1 ks (head_is (All (IsLawfulCall n)) ks clients all)) (all_within n (client + 1) clients (tail_all (All (IsLawfulCall n)) ks clients all))

jobs_within : (n : ℕ) (jobs : List Job) → All (IsRead n) (map read_in jobs) → AreWithin n jobs
jobs_within n [] all = All-nil _
jobs_within n (j ∷ jobs) all =
    cons_all (λ (job : Job). job.bucket ≤ n) j jobs (head_is (IsRead n) (read_in j) (map read_in jobs) all).1 (jobs_within n jobs (tail_all (IsRead n) (read_in j) (map read_in jobs) all))

-- the jobs of clients with calls over so many buckets are over these
pub are_within : (n : ℕ) (clients : List (List Call)) (jobs : List Job) → All (All (IsLawfulCall n)) clients → map read_in jobs ≡ reads_of clients → AreWithin n jobs
are_within n clients jobs all are = jobs_within n jobs (rw are (all_within n 1 clients all))

-- ---- rows that are the same give the same text

same_lines : (f g : ℕ → RowMap) (n : ℕ) (rs : List Read) → All (IsRead n) rs → ((b : ℕ) → 1 ≤ b → b ≤ n → f b ≡ g b) → lines (read_text f) rs ≡ lines (read_text g) rs
same_lines f g n [] all same = refl
same_lines f g n (r ∷ rs) all same =
    let within = head_is (IsRead n) r rs all in
    let rows : f r.bucket ≡ g r.bucket = same r.bucket within.0 within.1 in
    let others = same_lines f g n rs (tail_all (IsRead n) r rs all) same in
    rw (rows, others)

pub same_text : (maps : Maps) (n : ℕ) (rows : ℕ → RowMap) (clients : List (List Call)) → HaveRows maps n rows → All (All (IsLawfulCall n)) clients → reads_text (rows_of maps) (reads_of clients) ≡ reads_text rows (reads_of clients)
same_text maps n rows clients have all =
    ap (λ (t : List ℕ). codes "reads" ++ number (length (reads_of clients)) ++ codes "\n" ++ t ++ codes "end\n") (same_lines (rows_of maps) rows n (reads_of clients) (all_within n 1 clients all) have.each)
