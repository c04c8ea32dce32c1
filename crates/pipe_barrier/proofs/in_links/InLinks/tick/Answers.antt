use Rattle.pipe_barrier.proofs.in_links.InLinks.tick.Goals as goal

pub returns : goal.returns
returns c ins patience moments calls stands = record {
  registers_are = c.down_each.ensures ins moments stands.registers_are;
  silence_is = c.tick.ensures ins patience calls stands.silence_is;
}
