-- The connections of doors over the host's sockets, as these tell of them: nothing of bytes, and the counts. (This project's own.)
use Rattle.std.specs.Prelude.{ℕ, zero, suc, List, [], ◌∷◌, ◌++◌, None, map}
use Rattle.sw_outside.specs.Doors.{Accepted, Finished}
use Rattle.sw_store.specs.declared.tcp_doors.TcpFinished.{TcpFinished}

-- the connection of this number, as it was just accepted
abbrev pub fresh : ℕ → Accepted
fresh number = record {
  number = number;
  source = record { left = None; calls = 0; faults = 0 };
  sink = record { taken = None; calls = 0; faults = 0 };
}

-- one that was finished
abbrev pub told : TcpFinished → Finished
told f = record {
  read_at = f.read_at;
  written_at = f.written_at;
  among = f.among;
  source = record { left = None; calls = f.reads; faults = f.failed_reads };
  sink = record { taken = None; calls = f.puts; faults = f.failed_puts };
  status = f.status;
}

-- so many that were accepted
abbrev pub accepts_of : ℕ → List Accepted
accepts_of zero = []
accepts_of (suc count) = accepts_of count ++ fresh (suc count) ∷ []

-- these that were finished
abbrev pub finished_of : List TcpFinished → List Finished
finished_of items = map told items
