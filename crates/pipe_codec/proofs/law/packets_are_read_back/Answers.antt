use Rattle.pipe_codec.proofs.PacketLaws.{bytes-same, fault-bytes}
use Rattle.pipe_codec.proofs.law.packets_are_read_back.Goals as goal

pub returns-clause-fault : goal.returns-clause-fault
returns-clause-fault c = fault-bytes

pub returns-clause-one : goal.returns-clause-one
returns-clause-one c = bytes-same
