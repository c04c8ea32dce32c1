-- The limits of the protocol and of a run, each in one place.
use Rattle.std.specs.Prelude.{ℕ}

-- the last stamp and the last reading of a clock of 48 bits, which is the top of every network so far; a barrier or a next
-- timestamp may be one more
abbrev pub last_stamp : ℕ
last_stamp = 281474976710654

-- the longest patience that a network may have with a silent link, in units of the clock
abbrev pub most_patience : ℕ
most_patience = 281474976710654

-- the hosts, the switches and the cables of a network; each switch has two halves and a loop link, each cable two links
abbrev pub most_hosts : ℕ
most_hosts = 64

abbrev pub most_switches : ℕ
most_switches = 64

abbrev pub most_cables : ℕ
most_cables = 512

-- the nodes and the links of a network
abbrev pub most_nodes : ℕ
most_nodes = 192

abbrev pub most_links : ℕ
most_links = 1088

-- the entries of a list of failed hosts or of dropped links that a node keeps
abbrev pub most_entries : ℕ
most_entries = 65535

-- the receivers of one scattering
abbrev pub most_receivers : ℕ
most_receivers = 16

-- the reliable scatterings of one sender that are not settled
abbrev pub most_unsettled : ℕ
most_unsettled = 16

-- the bytes of one body
abbrev pub most_body : ℕ
most_body = 1024

-- the bytes of an input
abbrev pub most_bytes : ℕ
most_bytes = 67108864

-- the events of a run
abbrev pub most_events : ℕ
most_events = 200000

-- the packets and control messages that a run may put
abbrev pub most_items : ℕ
most_items = 1000000
