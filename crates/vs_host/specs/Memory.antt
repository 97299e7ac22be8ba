-- What a host in memory tells: all of it, and every name may be read.
use Rattle.std.specs.Prelude.{true, Some}
use Rattle.vs_host.specs.Files.{file_of}
use Rattle.vs_host.specs.declared.memory.MemHost.{MemHost}
use Rattle.vs_host.specs.Told.{Told}

abbrev pub told_in_memory : MemHost → Told
told_in_memory m =
    record {
      file = file_of m.files.items;
      may_read = λ _. true;
      out = Some m.out.items;
      log = Some m.log.items;
      taken = m.taken;
      read_faults = m.read_faults;
      write_faults = m.write_faults;
    }
