use Rattle.pipe_codec.proofs.NumberLaws.{AreBytes-from_all}
use Rattle.pipe_codec.proofs.PacketLaws.{faultless}
use Rattle.pipe_codec.proofs.law.faultless_bytes_are_packets.Goals as goal

pub returns : goal.returns
returns c = λ bytes each none. faultless bytes (AreBytes-from_all bytes each) none
