-- The report of a readable state is read as its account.
use Rattle.std.proofs.Common.{◌≡◌, ℕ, ◌+◌, ◌<◌, ◌≤◌, ◌^◌, true, List, [], ◌∷◌, ◌++◌, map, length, Ok, refl, sym, ap, ◌∙◌, arith, append_assoc, lit<}
use Rattle.std.specs.Prelude.{codes, filter}
use Rattle.std.specs.Fmt.{decimal}
use Rattle.std.specs.List.{flat_map, list_all, AllByRecursion, enumerate_from}
use Rattle.vs_history.specs.History as history
use Rattle.vs_machine.specs.Report as report
use Rattle.vs_machine.specs.Report.{numbers_to, kind_count}
use Rattle.vs_machine.specs.State.{State, sets_of}
use Rattle.vs_audit.specs.Account.{History, Call, Account}
use Rattle.vs_audit.specs.Legal.{number_of}
use Rattle.vs_audit.specs.Report.{report_of}
use Rattle.vs_audit.specs.ReportLines as lines
use Rattle.vs_audit.specs.Words.{Words}
use Rattle.vs_legal.specs.Account as account
use Rattle.vs_legal.specs.Account.{account_of, told_buckets, histories_from, line_after, first_history_line}
use Rattle.vs_legal.proofs.Words.Spelled.{are_words, spelled, text_of}
use Rattle.vs_legal.proofs.Words.Report.{kind_at, set_tail, bucket_tail}
use Rattle.vs_legal.proofs.Spelled.{decimal_word, lines_read}
use Rattle.vs_legal.proofs.ReadOps.{number_reads}
use Rattle.vs_legal.proofs.ReadLines.{line_reads, from, IsNumbered, numbered_lines}
use Rattle.vs_legal.proofs.ReadStatuses.{set_line_reads, set_are_words, bucket_line_reads, placement_are_words}
use Rattle.vs_legal.proofs.ReadItems.{Item, values_from, lines_with, EndsKind, all_lines}
use Rattle.vs_legal.proofs.ReadBuckets.{all_lines_of, told_of, told_from, told_end, histories_read}
use Rattle.vs_legal.proofs.ReadCalls.{IsReadableClient, calls_items, IsCallItem, calls_are, calls_rise, told_calls, calls_tell}
use Rattle.vs_legal.proofs.ReadCommands.{IsReadableOperator, commands_items, IsCommandItem, commands_are, commands_rise}
use Rattle.vs_legal.proofs.Numbered.{numbers_are, all_from}
use Rattle.vs_legal.proofs.TextLines.{text_append, lines_same, histories_same, cluster_same, set_same, bucket_same, calls_same, commands_same}
use Rattle.vs_legal.proofs.ReadReport.{IsReadableState, glued, ends_end, ends_items, all_append, numbered_words, histories_words, items_words, length_lines}

all_numbers : (ns : List ℕ) → AllByRecursion (λ _. Unit {0}) ns
all_numbers [] = tt
all_numbers (n ∷ ns) = (tt, all_numbers ns)

-- ---- the lines of a state, part by part

abbrev sets_lines : State → List Words
sets_lines s = map (λ x. codes "set" ∷ set_tail s x) (from 1 (sets_of s))

abbrev buckets_lines : State → List Words
buckets_lines s = map (λ b. codes "bucket" ∷ bucket_tail s b (from 1 (sets_of s))) (from 1 s.config.bucket_count)

abbrev histories_of : State → ℕ → history.History
histories_of s b = (s.bucket b).history

abbrev histories_lines : State → List Words
histories_lines s = all_lines_of (histories_of s) (from 1 s.config.bucket_count)

abbrev call_items : State → List (Item Call)
call_items s = calls_items s.client (from 1 s.clients)

abbrev command_items : State → List (Item ℕ)
command_items s = commands_items s.operator (from 1 s.operators)

abbrev end_lines : List Words
end_lines = (codes "end" ∷ []) ∷ []

abbrev command_lines : State → List Words
command_lines s = lines_with (codes "command") (command_items s) ++ end_lines

abbrev call_lines : State → List Words
call_lines s = lines_with (codes "call") (call_items s) ++ command_lines s

abbrev cluster_tail : State → Words
cluster_tail s = decimal (sets_of s) ∷ decimal s.config.bucket_count ∷ []

abbrev after_cluster : State → List Words
after_cluster s = sets_lines s ++ (buckets_lines s ++ (histories_lines s ++ call_lines s))

abbrev report_lines : State → List Words
report_lines s = (codes "cluster" ∷ cluster_tail s) ∷ after_cluster s

-- ---- its text is theirs

sets_text : (s : State) → report.lines (report.set_line s) (numbers_to (sets_of s)) ≡ text_of (sets_lines s)
sets_text s =
    ap (report.lines (report.set_line s)) (numbers_are (sets_of s))
    ∙ lines_same (λ _. Unit {0}) (report.set_line s) (λ x. codes "set" ∷ set_tail s x) (λ x _. set_same s x) (from 1 (sets_of s)) (all_numbers (from 1 (sets_of s)))

bucket_text : (s : State) (b : ℕ) → report.bucket_line s b ≡ spelled (codes "bucket" ∷ bucket_tail s b (from 1 (sets_of s)))
bucket_text s b =
    ap (λ (xs : List ℕ). codes "bucket" ++ report.number b ++ flat_map (λ x. report.entry_text x ((s.bucket b).entry x)) xs) (numbers_are (sets_of s))
    ∙ bucket_same s b (from 1 (sets_of s))

buckets_text : (s : State) → report.lines (report.bucket_line s) (numbers_to s.config.bucket_count) ≡ text_of (buckets_lines s)
buckets_text s =
    ap (report.lines (report.bucket_line s)) (numbers_are s.config.bucket_count)
    ∙ lines_same (λ _. Unit {0}) (report.bucket_line s) (λ b. codes "bucket" ∷ bucket_tail s b (from 1 (sets_of s))) (λ b _. bucket_text s b) (from 1 s.config.bucket_count) (all_numbers (from 1 s.config.bucket_count))

histories_text : (s : State) → IsReadableState s → flat_map (λ b. report.history_lines b (s.bucket b).history) (numbers_to s.config.bucket_count) ≡ text_of (histories_lines s)
histories_text s is =
    ap (flat_map (λ b. report.history_lines b (s.bucket b).history)) (numbers_are s.config.bucket_count)
    ∙ histories_same (histories_of s) is.histories (from 1 s.config.bucket_count)

clients_are : (s : State) → IsReadableState s → AllByRecursion (λ c. IsReadableClient (sets_of s) c (s.client c)) (from 1 s.clients)
clients_are s is = all_from (λ c. IsReadableClient (sets_of s) c (s.client c)) s.clients 1 (λ c low high. is.clients c low (omega arith))

operators_are : (s : State) → IsReadableState s → AllByRecursion (λ o. IsReadableOperator (sets_of s) o (s.operator o)) (from 1 s.operators)
operators_are s is = all_from (λ o. IsReadableOperator (sets_of s) o (s.operator o)) s.operators 1 (λ o low high. is.operators o low (omega arith))

calls_text : (s : State) → IsReadableState s → flat_map (λ c. report.call_lines c (s.client c)) (numbers_to s.clients) ≡ text_of (lines_with (codes "call") (call_items s))
calls_text s is =
    ap (flat_map (λ c. report.call_lines c (s.client c))) (numbers_are s.clients)
    ∙ calls_same (sets_of s) s.client (from 1 s.clients) (clients_are s is)

commands_text : (s : State) → flat_map (λ k. report.command_lines k (s.operator k)) (numbers_to s.operators) ≡ text_of (lines_with (codes "command") (command_items s))
commands_text s =
    ap (flat_map (λ k. report.command_lines k (s.operator k))) (numbers_are s.operators)
    ∙ commands_same s.operator (from 1 s.operators)

cluster_text : (s : State) → report.cluster_line s ++ codes "\n" ≡ spelled (codes "cluster" ∷ cluster_tail s) ++ codes "\n"
cluster_text s = ap (λ (r : List ℕ). r ++ codes "\n") (cluster_same (sets_of s) s.config.bucket_count)

-- texts one behind the other
joined_texts : (a b c d e f : List ℕ) → a ++ b ++ c ++ d ++ e ++ f ++ codes "end\n" ≡ a ++ (b ++ (c ++ (d ++ (e ++ (f ++ codes "end\n")))))
joined_texts a b c d e f = simp append_assoc

after_text : (s : State) → IsReadableState s → text_of (after_cluster s)
    ≡ report.lines (report.set_line s) (numbers_to (sets_of s)) ++ (report.lines (report.bucket_line s) (numbers_to s.config.bucket_count)
    ++ (flat_map (λ b. report.history_lines b (s.bucket b).history) (numbers_to s.config.bucket_count) ++ (flat_map (λ c. report.call_lines c (s.client c)) (numbers_to s.clients)
    ++ (flat_map (λ k. report.command_lines k (s.operator k)) (numbers_to s.operators) ++ codes "end\n"))))
after_text s is =
    rw (
      text_append (sets_lines s) (buckets_lines s ++ (histories_lines s ++ call_lines s)),
      text_append (buckets_lines s) (histories_lines s ++ call_lines s),
      text_append (histories_lines s) (call_lines s),
      text_append (lines_with (codes "call") (call_items s)) (command_lines s),
      text_append (lines_with (codes "command") (command_items s)) end_lines,
      sets_text s,
      buckets_text s,
      histories_text s is,
      calls_text s is,
      commands_text s,
    ) refl

text_is : (s : State) → IsReadableState s → report.report s ≡ text_of (report_lines s)
text_is s is =
    joined_texts (report.cluster_line s ++ codes "\n") (report.lines (report.set_line s) (numbers_to (sets_of s))) (report.lines (report.bucket_line s) (numbers_to s.config.bucket_count))
    (flat_map (λ b. report.history_lines b (s.bucket b).history) (numbers_to s.config.bucket_count)) (flat_map (λ c. report.call_lines c (s.client c)) (numbers_to s.clients)) (flat_map (λ k. report.command_lines k (s.operator k)) (numbers_to s.operators))
    ∙ ap (λ (r : List ℕ). (report.cluster_line s ++ codes "\n") ++ r) (sym (after_text s is))
    ∙ ap (λ (r : List ℕ). r ++ text_of (after_cluster s)) (cluster_text s)

-- ---- they are words

set_is : (s : State) → IsReadableState s → (x : ℕ) → 1 ≤ x → x < 1 + sets_of s → IsNumbered (λ x words. lines.set_line x words) (codes "set") (set_tail s) x
set_is s is x low high =
    (set_are_words s.up (λ x k. kind_count s x (kind_at k)) x (omega (arith, is.sets_few)) (is.counts x), set_line_reads s.up (λ x k. kind_count s x (kind_at k)) x (omega (arith, is.sets_few)) (is.counts x))

bucket_is : (s : State) → IsReadableState s → (b : ℕ) → 1 ≤ b → b < 1 + s.config.bucket_count → IsNumbered (λ b words. lines.bucket_line (sets_of s) b words) (codes "bucket") (λ b. bucket_tail s b (from 1 (sets_of s))) b
bucket_is s is b low high =
    let few : sets_of s < 2 ^ 32 = omega (arith, is.sets_few) in
    let small : b < 2 ^ 64 = omega (arith, is.buckets_few) in (
      rw (decimal_word b small) (placement_are_words (sets_of s) few (s.bucket b).entry (is.entries b) (sets_of s) 1 (omega arith)),
      bucket_line_reads (sets_of s) few (s.bucket b).entry (is.entries b) b small,
    )

calls_are_items : (s : State) → IsReadableState s → AllByRecursion (IsCallItem (sets_of s)) (call_items s)
calls_are_items s is = calls_are (sets_of s) s.client (from 1 s.clients) (omega (arith, is.sets_few)) (clients_are s is)

commands_are_items : (s : State) → IsReadableState s → AllByRecursion (IsCommandItem (sets_of s)) (command_items s)
commands_are_items s is = commands_are (sets_of s) s.operator (from 1 s.operators) (omega (arith, is.sets_few)) (operators_are s is)

lines_are_words : (s : State) → IsReadableState s → list_all are_words (report_lines s) ≡ true
lines_are_words s is =
    rw (decimal_word (sets_of s) (omega (arith, is.sets_few)), decimal_word s.config.bucket_count (omega (arith, is.buckets_few)))
    (all_append (sets_lines s) (buckets_lines s ++ (histories_lines s ++ call_lines s)) (numbered_words (λ x words. lines.set_line x words) (codes "set") (set_tail s) (sets_of s) 1 refl (set_is s is))
    (all_append (buckets_lines s) (histories_lines s ++ call_lines s) (numbered_words (λ b words. lines.bucket_line (sets_of s) b words) (codes "bucket") (λ b. bucket_tail s b (from 1 (sets_of s))) s.config.bucket_count 1 refl (bucket_is s is))
    (all_append (histories_lines s) (call_lines s) (histories_words (histories_of s) is.histories s.config.bucket_count 1 (omega (arith, is.buckets_few)))
    (all_append (lines_with (codes "call") (call_items s)) (command_lines s) (items_words (IsCallItem (sets_of s)) (λ i item. item.words) (codes "call") (call_items s) refl (calls_are_items s is))
    (all_append (lines_with (codes "command") (command_items s)) end_lines (items_words (IsCommandItem (sets_of s)) (λ i item. item.words) (codes "command") (command_items s) refl (commands_are_items s is)) refl)))))

-- ---- they are read

no_more_commands : EndsKind (codes "command") end_lines
no_more_commands = ends_end (codes "command") refl

no_more_calls : (s : State) → IsReadableState s → EndsKind (codes "call") (command_lines s)
no_more_calls s is =
    ends_items (IsCommandItem (sets_of s)) (λ i item. item.words) (codes "command") (codes "call") (command_items s) end_lines refl refl (commands_are_items s is) (ends_end (codes "call") refl)

no_more_histories : (s : State) → IsReadableState s → EndsKind (codes "history") (call_lines s)
no_more_histories s is =
    ends_items (IsCallItem (sets_of s)) (λ i item. item.words) (codes "call") (codes "history") (call_items s) (command_lines s) refl refl (calls_are_items s is)
    (ends_items (IsCommandItem (sets_of s)) (λ i item. item.words) (codes "command") (codes "history") (command_items s) end_lines refl refl (commands_are_items s is) (ends_end (codes "history") refl))

cluster_reads : (s : State) → IsReadableState s → lines.cluster_line (codes "cluster" ∷ cluster_tail s) ≡ Ok (record { sets = sets_of s; buckets = s.config.bucket_count })
cluster_reads s is =
    rw (number_reads 1 32 (sets_of s) (decimal s.config.bucket_count ∷ []) (lit< tt) is.sets is.sets_few, number_reads 1 30000 s.config.bucket_count [] (lit< tt) is.buckets is.buckets_few) refl

cluster_words : (s : State) → IsReadableState s → are_words (cluster_tail s) ≡ true
cluster_words s is = rw (decimal_word (sets_of s) (omega (arith, is.sets_few)), decimal_word s.config.bucket_count (omega (arith, is.buckets_few))) refl

-- the account as it is read
abbrev read_account : State → Account
read_account s =
    let told = told_of (histories_of s) (from 1 s.config.bucket_count) in
    let first = 2 + sets_of s + s.config.bucket_count in
    record {
      buckets = s.config.bucket_count;
      histories = told_from (histories_of s) first told;
      calls = values_from (told_end (histories_of s) first told) (call_items s);
    }

is_read : (s : State) → IsReadableState s → report_of (text_of (report_lines s)) ≡ Ok (read_account s)
is_read s is =
    let n = sets_of s in
    let m = s.config.bucket_count in
    let told = told_of (histories_of s) (from 1 m) in
    let end = told_end (histories_of s) (2 + n + m) told in
    let set = numbered_lines (λ x words. lines.set_line x words) (codes "set") (set_tail s) n 1 2 (buckets_lines s ++ (histories_lines s ++ call_lines s)) refl (set_is s is) in
    let bucket = numbered_lines (λ b words. lines.bucket_line n b words) (codes "bucket") (λ b. bucket_tail s b (from 1 n)) m 1 (2 + n) (histories_lines s ++ call_lines s) refl (bucket_is s is) in
    let history = histories_read m (omega (arith, is.buckets_few)) (histories_of s) is.histories m 1 m 0 (2 + n + m) (call_lines s) (omega arith) (omega arith) (omega arith) (no_more_histories s is) in
    let call = all_lines (lines.call_line n) (λ c. number_of c.id) (codes "call") (call_items s) (length (map spelled (call_lines s) ++ [] ∷ [])) 0 end (command_lines s)
    refl refl (calls_are_items s is) (calls_rise s.client s.clients 1 0 is.calls (omega arith)) (length_lines (codes "call") (call_items s) (command_lines s)) (no_more_calls s is) in
    let command = all_lines (λ last _ words. lines.command_line n last words) (λ k. k) (codes "command") (command_items s) (length (map spelled (command_lines s) ++ [] ∷ [])) 0 (end + length (call_items s)) end_lines
    refl refl (commands_are_items s is) (commands_rise s.operator s.operators 1 0 is.commands (omega arith)) (length_lines (codes "command") (command_items s) end_lines) no_more_commands in
    glued (text_of (report_lines s)) n m (cluster_tail s) (sets_lines s) (buckets_lines s) (histories_lines s) (lines_with (codes "call") (call_items s)) (lines_with (codes "command") (command_items s))
    (2 + n) (2 + n + m) end (end + length (call_items s)) (end + length (call_items s) + length (command_items s))
    (told_from (histories_of s) (2 + n + m) told) (values_from end (call_items s)) set.0 bucket.0 (values_from (end + length (call_items s)) (command_items s))
    (lines_read (report_lines s) (lines_are_words s is))
    (line_reads (λ _ words. lines.cluster_line words) 1 (codes "cluster") (cluster_tail s) (after_cluster s) (record { sets = n; buckets = m }) refl (cluster_words s is) (cluster_reads s is))
    set.1 bucket.1 history call command

-- ---- it is the account

histories_are : (s : State) (line : ℕ) (bs : List ℕ) → told_from (histories_of s) line bs ≡ histories_from s line bs
histories_are s line [] = refl
histories_are s line (b ∷ bs) = ap (λ (hs : List History). account.history_at line b (s.bucket b).history ∷ hs) (histories_are s (line + account.lines_of (s.bucket b).history) bs)

end_is : (s : State) (line : ℕ) (bs : List ℕ) → told_end (histories_of s) line bs ≡ line_after s line bs
end_is s line [] = refl
end_is s line (b ∷ bs) = end_is s (line + account.lines_of (s.bucket b).history) bs

told_are : (s : State) → told_of (histories_of s) (from 1 s.config.bucket_count) ≡ told_buckets s
told_are s = ap (filter (λ b. account.is_told (s.bucket b).history)) (sym (numbers_are s.config.bucket_count))

calls_told : (s : State) (line : ℕ) → values_from line (call_items s) ≡ map (λ c. account.call_at c.0 c.1) (enumerate_from line (flat_map (λ c. account.calls_of c (s.client c)) (numbers_to s.clients)))
calls_told s line =
    told_calls (call_items s) (flat_map (λ c. account.calls_of c (s.client c)) (from 1 s.clients)) line (calls_tell s.client (from 1 s.clients))
    ∙ ap (λ (cs : List ℕ). map (λ c. account.call_at c.0 c.1) (enumerate_from line (flat_map (λ c. account.calls_of c (s.client c)) cs))) (sym (numbers_are s.clients))

account_is : (s : State) → read_account s ≡ account_of s
account_is s =
    rw (told_are s, histories_are s (first_history_line s) (told_buckets s), end_is s (first_history_line s) (told_buckets s), calls_told s (line_after s (first_history_line s) (told_buckets s))) refl

-- the report of a readable state is read as the account of its histories and answers
pub reads_back : (s : State) → IsReadableState s → report_of (report.report s) ≡ Ok (account_of s)
reads_back s is = ap report_of (text_is s is) ∙ is_read s is ∙ ap (λ (a : Account). Ok a) (account_is s)
