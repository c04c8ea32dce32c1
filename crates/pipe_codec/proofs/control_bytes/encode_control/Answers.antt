use Rattle.std.proofs.Common.{◌+◌, ◌++◌, length, drop, sym, ap, ◌∙◌, arith}
use Rattle.pipe_codec.specs.Control.{contents_bytes, control_bytes, control_header, control_kind, receiver_number}
use Rattle.pipe_codec.proofs.ControlLaws.{bytes-parts, length-bytes}
use Rattle.pipe_codec.proofs.PutLaws.{put-both}
use Rattle.pipe_codec.proofs.control_bytes.encode_control.Goals as goal

pub put-requires : goal.put-requires
put-requires c = omega (arith, c.requires.room, length-bytes c.args.a.now, ap length c.header_of.ensures)

pub put_contents-requires : goal.put_contents-requires
put_contents-requires c = omega (arith, c.requires.room, length-bytes c.args.a.now, c.put.auto.out)

pub returns-clause-len : goal.returns-clause-len
returns-clause-len c = omega (arith, length-bytes c.args.a.now, c.contents_len-contents.ensures.len)

pub returns-clause-bytes : goal.returns-clause-bytes
returns-clause-bytes c =
    let contents = contents_bytes c.args.a.now.control in
    let len = c.contents_len-contents.ensures.len in
    let header = c.header_of.ensures ∙ ap (control_header (control_kind c.args.a.now.control) (receiver_number c.args.a.now.to)) len in
    put-both 6 c.args.out.now c.put.new.out c.put_contents.new.out c.header_of.result contents (ap length c.header_of.ensures) c.put.ensures c.put_contents.ensures
    ∙ ap (λ xs. xs ++ drop (6 + length contents) c.args.out.now) (bytes-parts c.args.a.now c.header_of.result header)
    ∙ ap (λ n. control_bytes c.args.a.now ++ drop (6 + n) c.args.out.now) (sym len)
