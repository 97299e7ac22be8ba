-- The document that a text is.
use Rattle.std.proofs.Common.{◌≡◌, ℕ, List, Some, None, true, false, refl, if◌then◌else◌}
use Rattle.std.proofs.lemmas.Str.{IsUtf8-from_is_utf8, is_utf8-from_IsUtf8}
use Rattle.std.specs.Prelude.{IsUtf8}
use Rattle.std.specs.Str.{is_utf8}
use Rattle.toml.specs.Data.{Members, no_members}
use Rattle.toml.specs.Errors.{IsBlank}
use Rattle.toml.specs.Parse.{parse_document, lines}
use Rattle.vs_config.specs.Reading.{document_of}

pub document_of-Some : (text : List ℕ) (document : Members) → IsUtf8 text → parse_document text ≡ Some document → document_of text ≡ Some document
document_of-Some text document utf8 parsed = rw (is_utf8-from_IsUtf8 text utf8) parsed

pub document_of-None : (text : List ℕ) → (IsUtf8 text → parse_document text ≡ None) → document_of text ≡ None
document_of-None text refused =
    elim (is_utf8 text) as (λ b. is_utf8 text ≡ b → (if b then parse_document text else None) ≡ None)
    [ true ↦ λ e. refused (IsUtf8-from_is_utf8 text e) | false ↦ λ _. refl ] refl

-- a blank text is the document without members
pub parse_document-blank : (text : List ℕ) → IsBlank text → parse_document text ≡ Some no_members
unfolding parse_document lines
parse_document-blank text blank = rw blank refl
