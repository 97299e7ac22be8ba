-- A whole report, part by part.
use Rattle.std.proofs.Common.{◌≡◌, ℕ, List, Ok, Err, refl, subst}
use Rattle.vs_text.specs.Split.{lines_of}
use Rattle.vs_audit.specs.Account.{History, Call}
use Rattle.vs_audit.specs.Given.{IsTextFaultOf}
use Rattle.vs_audit.specs.Report.{Rest, line_at, sets_at, buckets_at, histories_at, calls_at, commands_at, nothing_at, report_of}
use Rattle.vs_audit.specs.ReportLines.{cluster_line, end_line}
use Rattle.vs_audit.specs.declared.audit_text.AuditText.{AuditText}
use Rattle.vs_audit.specs.declared.audit_text.AuditText.TheVariants as text
use Rattle.vs_audit.specs.declared.heads.Size.{Size}

abbrev pub start_of : List ℕ → Rest
start_of bytes = record { number = 1; lines = lines_of bytes }

pub cluster_fails : (bytes : List ℕ) (start : Rest) (fault : AuditText) → start ≡ start_of bytes → IsTextFaultOf fault (line_at (λ _ words. cluster_line words) start) → IsTextFaultOf fault (report_of bytes)
unfolding report_of
cluster_fails bytes start (text.Bad line) begin is = let wrong = subst (λ (s : Rest). line_at (λ _ words. cluster_line words) s ≡ Err line) begin is in rw wrong refl
cluster_fails bytes start text.NoMemory begin is = tt

pub sets_fails : (bytes : List ℕ) (start : Rest) (size : Size) (one : Rest) (fault : AuditText) → start ≡ start_of bytes → line_at (λ _ words. cluster_line words) start ≡ Ok (size, one) → IsTextFaultOf fault (sets_at size.sets one) → IsTextFaultOf fault (report_of bytes)
unfolding report_of
sets_fails bytes start size one (text.Bad line) begin e0 is = let first = subst (λ (s : Rest). line_at (λ _ words. cluster_line words) s ≡ Ok (size, one)) begin e0 in rw (first, is) refl
sets_fails bytes start size one text.NoMemory begin e0 is = tt

pub buckets_fails : (bytes : List ℕ) (start : Rest) (size : Size) (one : Rest) (sets : List (Unit {0})) (two : Rest) (fault : AuditText) → start ≡ start_of bytes → line_at (λ _ words. cluster_line words) start ≡ Ok (size, one) → sets_at size.sets one ≡ Ok (sets, two) → IsTextFaultOf fault (buckets_at size.sets size.buckets two) → IsTextFaultOf fault (report_of bytes)
unfolding report_of
buckets_fails bytes start size one sets two (text.Bad line) begin e0 e1 is = let first = subst (λ (s : Rest). line_at (λ _ words. cluster_line words) s ≡ Ok (size, one)) begin e0 in rw (first, e1, is) refl
buckets_fails bytes start size one sets two text.NoMemory begin e0 e1 is = tt

pub histories_fails : (bytes : List ℕ) (start : Rest) (size : Size) (one : Rest) (sets : List (Unit {0})) (two : Rest) (buckets : List (Unit {0})) (three : Rest) (fault : AuditText) → start ≡ start_of bytes → line_at (λ _ words. cluster_line words) start ≡ Ok (size, one) → sets_at size.sets one ≡ Ok (sets, two) → buckets_at size.sets size.buckets two ≡ Ok (buckets, three) → IsTextFaultOf fault (histories_at size.buckets three) → IsTextFaultOf fault (report_of bytes)
unfolding report_of
histories_fails bytes start size one sets two buckets three (text.Bad line) begin e0 e1 e2 is = let first = subst (λ (s : Rest). line_at (λ _ words. cluster_line words) s ≡ Ok (size, one)) begin e0 in rw (first, e1, e2, is) refl
histories_fails bytes start size one sets two buckets three text.NoMemory begin e0 e1 e2 is = tt

pub calls_fails : (bytes : List ℕ) (start : Rest) (size : Size) (one : Rest) (sets : List (Unit {0})) (two : Rest) (buckets : List (Unit {0})) (three : Rest) (histories : List History) (four : Rest) (fault : AuditText) → start ≡ start_of bytes → line_at (λ _ words. cluster_line words) start ≡ Ok (size, one) → sets_at size.sets one ≡ Ok (sets, two) → buckets_at size.sets size.buckets two ≡ Ok (buckets, three) → histories_at size.buckets three ≡ Ok (histories, four) → IsTextFaultOf fault (calls_at size.sets four) → IsTextFaultOf fault (report_of bytes)
unfolding report_of
calls_fails bytes start size one sets two buckets three histories four (text.Bad line) begin e0 e1 e2 e3 is = let first = subst (λ (s : Rest). line_at (λ _ words. cluster_line words) s ≡ Ok (size, one)) begin e0 in rw (first, e1, e2, e3, is) refl
calls_fails bytes start size one sets two buckets three histories four text.NoMemory begin e0 e1 e2 e3 is = tt

pub commands_fails : (bytes : List ℕ) (start : Rest) (size : Size) (one : Rest) (sets : List (Unit {0})) (two : Rest) (buckets : List (Unit {0})) (three : Rest) (histories : List History) (four : Rest) (calls : List Call) (five : Rest) (fault : AuditText) → start ≡ start_of bytes → line_at (λ _ words. cluster_line words) start ≡ Ok (size, one) → sets_at size.sets one ≡ Ok (sets, two) → buckets_at size.sets size.buckets two ≡ Ok (buckets, three) → histories_at size.buckets three ≡ Ok (histories, four) → calls_at size.sets four ≡ Ok (calls, five) → IsTextFaultOf fault (commands_at size.sets five) → IsTextFaultOf fault (report_of bytes)
unfolding report_of
commands_fails bytes start size one sets two buckets three histories four calls five (text.Bad line) begin e0 e1 e2 e3 e4 is = let first = subst (λ (s : Rest). line_at (λ _ words. cluster_line words) s ≡ Ok (size, one)) begin e0 in rw (first, e1, e2, e3, e4, is) refl
commands_fails bytes start size one sets two buckets three histories four calls five text.NoMemory begin e0 e1 e2 e3 e4 is = tt

pub end_fails : (bytes : List ℕ) (start : Rest) (size : Size) (one : Rest) (sets : List (Unit {0})) (two : Rest) (buckets : List (Unit {0})) (three : Rest) (histories : List History) (four : Rest) (calls : List Call) (five : Rest) (commands : List ℕ) (six : Rest) (fault : AuditText) → start ≡ start_of bytes → line_at (λ _ words. cluster_line words) start ≡ Ok (size, one) → sets_at size.sets one ≡ Ok (sets, two) → buckets_at size.sets size.buckets two ≡ Ok (buckets, three) → histories_at size.buckets three ≡ Ok (histories, four) → calls_at size.sets four ≡ Ok (calls, five) → commands_at size.sets five ≡ Ok (commands, six) → IsTextFaultOf fault (line_at (λ _ words. end_line words) six) → IsTextFaultOf fault (report_of bytes)
unfolding report_of
end_fails bytes start size one sets two buckets three histories four calls five commands six (text.Bad line) begin e0 e1 e2 e3 e4 e5 is = let first = subst (λ (s : Rest). line_at (λ _ words. cluster_line words) s ≡ Ok (size, one)) begin e0 in rw (first, e1, e2, e3, e4, e5, is) refl
end_fails bytes start size one sets two buckets three histories four calls five commands six text.NoMemory begin e0 e1 e2 e3 e4 e5 is = tt

pub nothing_fails : (bytes : List ℕ) (start : Rest) (size : Size) (one : Rest) (sets : List (Unit {0})) (two : Rest) (buckets : List (Unit {0})) (three : Rest) (histories : List History) (four : Rest) (calls : List Call) (five : Rest) (commands : List ℕ) (six : Rest) (last : Unit {0}) (seven : Rest) (fault : AuditText) → start ≡ start_of bytes → line_at (λ _ words. cluster_line words) start ≡ Ok (size, one) → sets_at size.sets one ≡ Ok (sets, two) → buckets_at size.sets size.buckets two ≡ Ok (buckets, three) → histories_at size.buckets three ≡ Ok (histories, four) → calls_at size.sets four ≡ Ok (calls, five) → commands_at size.sets five ≡ Ok (commands, six) → line_at (λ _ words. end_line words) six ≡ Ok (last, seven) → IsTextFaultOf fault (nothing_at seven) → IsTextFaultOf fault (report_of bytes)
unfolding report_of
nothing_fails bytes start size one sets two buckets three histories four calls five commands six last seven (text.Bad line) begin e0 e1 e2 e3 e4 e5 e6 is = let first = subst (λ (s : Rest). line_at (λ _ words. cluster_line words) s ≡ Ok (size, one)) begin e0 in rw (first, e1, e2, e3, e4, e5, e6, is) refl
nothing_fails bytes start size one sets two buckets three histories four calls five commands six last seven text.NoMemory begin e0 e1 e2 e3 e4 e5 e6 is = tt

pub report_is : (bytes : List ℕ) (start : Rest) (size : Size) (one : Rest) (sets : List (Unit {0})) (two : Rest) (buckets : List (Unit {0})) (three : Rest) (histories : List History) (four : Rest) (calls : List Call) (five : Rest) (commands : List ℕ) (six : Rest) (last : Unit {0}) (seven : Rest) → start ≡ start_of bytes → line_at (λ _ words. cluster_line words) start ≡ Ok (size, one) → sets_at size.sets one ≡ Ok (sets, two) → buckets_at size.sets size.buckets two ≡ Ok (buckets, three) → histories_at size.buckets three ≡ Ok (histories, four) → calls_at size.sets four ≡ Ok (calls, five) → commands_at size.sets five ≡ Ok (commands, six) → line_at (λ _ words. end_line words) six ≡ Ok (last, seven) → nothing_at seven ≡ Ok tt
    → report_of bytes ≡ Ok (record { buckets = size.buckets; histories = histories; calls = calls })
unfolding report_of
report_is bytes start size one sets two buckets three histories four calls five commands six last seven begin e0 e1 e2 e3 e4 e5 e6 e7 =
    let first = subst (λ (s : Rest). line_at (λ _ words. cluster_line words) s ≡ Ok (size, one)) begin e0 in
    rw (first, e1, e2, e3, e4, e5, e6, e7) refl
