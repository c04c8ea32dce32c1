use Rattle.pipe_barrier.proofs.in_links.InLinks.receive.Goals as goal

pub returns : goal.returns
returns c ins patience moments calls stands = record {
  registers_are = c.raise.ensures ins moments stands.registers_are;
  silence_is = c.took.ensures ins patience calls stands.silence_is;
}
