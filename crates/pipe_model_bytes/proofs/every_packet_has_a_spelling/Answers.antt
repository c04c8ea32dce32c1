use Rattle.pipe_model_bytes.proofs.Packets.{packets_spelled}
use Rattle.pipe_model_bytes.proofs.every_packet_has_a_spelling.Goals as goal

pub returns : goal.returns
returns c = packets_spelled
