use Rattle.std.proofs.Common.{ℕ, ◌≡◌, ◌+◌, List, [], ◌∷◌, ◌++◌, length, drop, refl, sym, ap, ◌∙◌, arith}
use Rattle.pipe_codec.specs.Number.{two_bytes, six_bytes}
use Rattle.pipe_codec.specs.Packet.{packet_bytes, packet_code, packet_header}
use Rattle.pipe_codec.proofs.PacketLaws.{bytes-parts, length-bytes}
use Rattle.pipe_codec.proofs.PutLaws.{put-field}
use Rattle.pipe_codec.proofs.packet_bytes.encode.Goals as goal

pub returns-clause-len : goal.returns-clause-len
returns-clause-len c = omega (arith, length-bytes c.args.p.now, ap length c.bytes-body.ensures.value)

-- field after field, as the header has them, and then the body
pub returns-clause-bytes : goal.returns-clause-bytes
returns-clause-bytes c =
    let p = c.args.p.now in
    let old : List ℕ = c.args.out.now in
    let body = c.bytes-body.ensures.value in
    let kind : List ℕ = 1 ∷ packet_code p.kind ∷ [] in
    let src = kind ++ two_bytes p.src.0 in
    let dst = src ++ two_bytes p.dst.0 in
    let ts = dst ++ six_bytes p.ts.0 in
    let be = ts ++ six_bytes p.be.0 in
    let commit = be ++ six_bytes p.commit.0 in
    let put_kind = put-field old old c.put.new.out [] _ kind (ap (λ (n : ℕ). 1 ∷ n ∷ []) c.code_of.ensures) refl c.put.ensures in
    let put_src = put-field old c.put.new.out c.put-2.new.out kind _ (two_bytes p.src.0) c.to_be_bytes.ensures put_kind c.put-2.ensures in
    let put_dst = put-field old c.put-2.new.out c.put-3.new.out src _ (two_bytes p.dst.0) c.to_be_bytes-2.ensures put_src c.put-3.ensures in
    let put_ts = put-field old c.put-3.new.out c.put-4.new.out dst _ (six_bytes p.ts.0) c.six_bytes.ensures put_dst c.put-4.ensures in
    let put_be = put-field old c.put-4.new.out c.put-5.new.out ts _ (six_bytes p.be.0) c.six_bytes-2.ensures put_ts c.put-5.ensures in
    let put_commit = put-field old c.put-5.new.out c.put-6.new.out be _ (six_bytes p.commit.0) c.six_bytes-3.ensures put_be c.put-6.ensures in
    let put_len = put-field old c.put-6.new.out c.put-7.new.out commit _ (two_bytes (length p.body)) (c.to_be_bytes-3.ensures ∙ ap (λ (xs : List ℕ). two_bytes (length xs)) body) put_commit c.put-7.ensures in
    let put_body = put-field old c.put-7.new.out c.put-8.new.out (packet_header p) _ p.body body put_len c.put-8.ensures in
    let parts : packet_header p ++ p.body ≡ packet_bytes p = bytes-parts p (packet_header p) p.body refl refl in
    let len : length (packet_bytes p) ≡ 26 + length c.bytes-body.result.now = length-bytes p ∙ ap (λ (xs : List ℕ). 26 + length xs) (sym body) in
    put_body ∙ ap (λ (xs : List ℕ). xs ++ drop (length xs) old) parts ∙ ap (λ (n : ℕ). packet_bytes p ++ drop n old) len
