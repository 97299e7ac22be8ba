-- Laws of disks that tell nothing of a crash.
use Rattle.std.specs.Prelude.{◌≡◌, false}
use Rattle.std.proofs.Common.{sym, ◌∙◌}
use Rattle.std.proofs.lemmas.Bool.{false≢true}
use Rattle.vs_disk.specs.Told.{Told}
use Rattle.vs_disk.specs.Model.{IsLawful}

pub untold : (disk : Told) → disk.is_honest ≡ false → IsLawful disk
untold disk is = record {
  reads_too = λ h. absurd (false≢true (sym is ∙ h));
  as_it_reads = λ h. absurd (false≢true (sym is ∙ h));
  counts_now = λ h t c le left. absurd (false≢true (sym is ∙ h));
  only_now = λ h c left. absurd (false≢true (sym is ∙ h));
}
