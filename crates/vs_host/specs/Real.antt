-- What the real host tells: its counts, and nothing of content. Every name may be read.
use Rattle.std.specs.Prelude.{true, None}
use Rattle.vs_host.specs.declared.real.RealHost.{RealHost}
use Rattle.vs_host.specs.Told.{Told}

abbrev pub told_of_system : {Files File Metadata Output Log : Type 0}
    → RealHost Files File Metadata Output Log → Told
told_of_system h =
    record {
      file = λ _. None;
      may_read = λ _. true;
      out = None;
      log = None;
      taken = h.taken;
      read_faults = h.read_faults;
      write_faults = h.write_faults;
    }
