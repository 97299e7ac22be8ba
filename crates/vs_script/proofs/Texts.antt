-- What a text gives, by its first entry.
use Rattle.std.proofs.Common.{◌≡◌, ℕ, ◌+◌, Some, None, Ok, Err, List, ◌∙◌, refl}
use Rattle.std.specs.Str.Lines.{lines}
use Rattle.vs_script.specs.declared.command.Command.{Command}
use Rattle.vs_script.specs.declared.fault.ScriptFault.{ScriptFault}
use Rattle.vs_script.specs.declared.fault.ScriptFault.TheVariants.{Bad, NoMemory}
use Rattle.vs_script.specs.declared.fault.ScriptKind.{ScriptKind}
use Rattle.vs_script.specs.declared.fault.ScriptKind.TheVariants.{BadHeader}
use Rattle.vs_script.specs.declared.header.Header.{Header}
use Rattle.vs_script.specs.declared.header.Header.TheVariants as header
use Rattle.vs_script.specs.Calls.{Call}
use Rattle.vs_script.specs.Given.{IsTextFaultOf}
use Rattle.vs_script.specs.Lines.{header_of, call_of, command_of}
use Rattle.vs_script.specs.Reading.{body_of, entries_of, first_entry, reading_of}
use Rattle.vs_script.specs.Scripts.{Client, Operator}

pub bad_before : (m n : ℕ) (text : List ℕ) (fault : ScriptFault) → IsTextFaultOf fault (first_entry 1 (lines text)) → IsTextFaultOf fault (reading_of m n text)
unfolding reading_of
bad_before m n text (Bad kind line) first = rw first refl
bad_before m n text NoMemory first = tt

pub no_entry : (m n : ℕ) (text : List ℕ) → first_entry 1 (lines text) ≡ Ok None → reading_of m n text ≡ Err (Bad BadHeader 1)
unfolding reading_of
no_entry m n text first = rw first refl

pub bad_header : (m n : ℕ) (text : List ℕ) (k : ℕ) (words rest : List (List ℕ)) (kind : ScriptKind)
    → first_entry 1 (lines text) ≡ Ok (Some (k, words, rest)) → header_of words ≡ Err kind → reading_of m n text ≡ Err (Bad kind k)
unfolding reading_of
bad_header m n text k words rest kind first is = rw (first, is) refl

-- a text with a header is what follows it
with_header : (m n : ℕ) (text : List ℕ) (k : ℕ) (words rest : List (List ℕ)) (h : Header)
    → first_entry 1 (lines text) ≡ Ok (Some (k, words, rest)) → header_of words ≡ Ok h → reading_of m n text ≡ body_of m n h (k + 1) rest
unfolding reading_of
with_header m n text k words rest h first is = rw (first, is) refl

pub client : (m n : ℕ) (text : List ℕ) (k : ℕ) (words rest : List (List ℕ)) (calls : List Call)
    → first_entry 1 (lines text) ≡ Ok (Some (k, words, rest)) → header_of words ≡ Ok header.Client → entries_of (call_of m) (k + 1) rest ≡ Ok calls
    → reading_of m n text ≡ Ok (Client calls)
client m n text k words rest calls first is entries = with_header m n text k words rest header.Client first is ∙ rw entries refl

pub bad_client : (m n : ℕ) (text : List ℕ) (k : ℕ) (words rest : List (List ℕ)) (fault : ScriptFault)
    → first_entry 1 (lines text) ≡ Ok (Some (k, words, rest)) → header_of words ≡ Ok header.Client → IsTextFaultOf fault (entries_of (call_of m) (k + 1) rest)
    → IsTextFaultOf fault (reading_of m n text)
bad_client m n text k words rest (Bad kind line) first is entries = with_header m n text k words rest header.Client first is ∙ rw entries refl
bad_client m n text k words rest NoMemory first is entries = tt

pub operator : (m n : ℕ) (text : List ℕ) (k : ℕ) (words rest : List (List ℕ)) (commands : List Command)
    → first_entry 1 (lines text) ≡ Ok (Some (k, words, rest)) → header_of words ≡ Ok header.Operator → entries_of (command_of m n) (k + 1) rest ≡ Ok commands
    → reading_of m n text ≡ Ok (Operator commands)
operator m n text k words rest commands first is entries = with_header m n text k words rest header.Operator first is ∙ rw entries refl

pub bad_operator : (m n : ℕ) (text : List ℕ) (k : ℕ) (words rest : List (List ℕ)) (fault : ScriptFault)
    → first_entry 1 (lines text) ≡ Ok (Some (k, words, rest)) → header_of words ≡ Ok header.Operator → IsTextFaultOf fault (entries_of (command_of m n) (k + 1) rest)
    → IsTextFaultOf fault (reading_of m n text)
bad_operator m n text k words rest (Bad kind line) first is entries = with_header m n text k words rest header.Operator first is ∙ rw entries refl
bad_operator m n text k words rest NoMemory first is entries = tt
