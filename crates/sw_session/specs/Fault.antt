-- How a session ends where a reply can't be written, or its server can't go on. (This project's own.)
use Rattle.sw_message.specs.declared.writer.WriteFault.{WriteFault}
use Rattle.sw_message.specs.declared.writer.WriteFault.TheVariants as writes
use Rattle.sw_session.specs.declared.server.ServerFault.{ServerFault}
use Rattle.sw_session.specs.declared.server.ServerFault.TheVariants as servers
use Rattle.sw_session.specs.declared.session.SessionFault.{SessionFault}
use Rattle.sw_session.specs.declared.session.SessionFault.TheVariants as faults

-- a write that failed ends it so
abbrev pub fault_of : WriteFault → SessionFault
fault_of writes.Failed = faults.WriteFault
fault_of writes.NoMemory = faults.NoMemory

-- a server that can't go on ends it so
abbrev pub halt_of : ServerFault → SessionFault
halt_of servers.Failed = faults.ServerFault
halt_of servers.NoMemory = faults.NoMemory
