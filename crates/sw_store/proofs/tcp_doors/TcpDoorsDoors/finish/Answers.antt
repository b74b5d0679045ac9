-- One more is finished, among as many as were accepted.
use Rattle.std.proofs.Common.{◌≡◌, [], ◌∷◌, ◌++◌, refl, arith, rules}
use Rattle.std.proofs.lemmas.List.{length-map}
use Rattle.sw_store.proofs.Accepting.{accepted-count, finishes-more}
use Rattle.sw_store.specs.Connections.{told}
use Rattle.sw_store.specs.declared.tcp_doors.TcpFinished.{TcpFinished}
use Rattle.sw_store.proofs.tcp_doors.TcpDoorsDoors.finish.Goals as goal

pub add-requires : goal.add-requires
add-requires g c =
    let all = c.args.self.now.finished in
    let fewer = c.requires in
    let accepted = accepted-count all.promised in
    let finished = length-map all.items told in
    omega (arith, fewer, accepted, finished)

pub returns-clause-finished : goal.returns-clause-finished
returns-clause-finished g c =
    let all = c.args.self.now.finished in
    let f : TcpFinished = record {
      read_at = c.args.input.number;
      written_at = c.args.output.number;
      among = all.promised;
      reads = c.args.input.calls;
      failed_reads = c.args.input.faults;
      puts = c.args.output.calls;
      failed_puts = c.args.output.faults;
      status = c.args.status;
    } in
    let more : c.add.new.self.items ≡ all.items ++ f ∷ [] = search rules in
    finishes-more all.promised all.items c.add.new.self.items f more refl
