use Rattle.std.proofs.Common.{arith}
use Rattle.pipe_codec.proofs.ControlLaws.{read-done, read-down, read-drop_links, read-freeze, read-gone, read-notice}
use Rattle.pipe_codec.proofs.control.read_contents.Goals as goal

pub returns-in-Down : goal.returns-in-Down
returns-in-Down c =
    let fit = rw c.in-Down.is at c.requires in
    rw c.in-Down.is (read-down c.args.contents.now _ _ (λ i. omega (arith, c.type_inv.contents i)) fit c.two_at.ensures c.six_at.ensures)

pub returns-in-Freeze : goal.returns-in-Freeze
returns-in-Freeze c =
    let fit = rw c.in-Freeze.is at c.requires in
    rw c.in-Freeze.is (read-freeze c.args.contents.now _ (λ i. omega (arith, c.type_inv.contents i)) fit c.two_at-in-Freeze.ensures)

pub returns-in_ok-from_list-in-Notice : goal.returns-in_ok-from_list-in-Notice
returns-in_ok-from_list-in-Notice c =
    let fit = rw c.in-Notice.is at c.requires in
    let same = c.in_ok-from_list-in-Notice.ensures in
    let read = c.in_ok-read_announced-in-Notice.ensures in
    rw c.in-Notice.is (read-notice c.args.contents.now _ fit (rw same read.spelled) (rw same read.fits))

pub returns-in-Done : goal.returns-in-Done
returns-in-Done c =
    let fit = rw c.in-Done.is at c.requires in
    rw c.in-Done.is (read-done c.args.contents.now _ _ (λ i. omega (arith, c.type_inv.contents i)) fit c.two_at-in-Done.ensures c.two_at-in-Done-2.ensures)

pub returns-in_ok-from_list-in-DropLinks : goal.returns-in_ok-from_list-in-DropLinks
returns-in_ok-from_list-in-DropLinks c =
    let fit = rw c.in-DropLinks.is at c.requires in
    let same = c.in_ok-from_list-in-DropLinks.ensures in
    let read = c.in_ok-read_links-in-DropLinks.ensures in
    rw c.in-DropLinks.is (read-drop_links c.args.contents.now _ fit (rw same read.spelled) (rw same read.fits))

pub returns-in-Gone : goal.returns-in-Gone
returns-in-Gone c =
    let fit = rw c.in-Gone.is at c.requires in
    rw c.in-Gone.is (read-gone c.args.contents.now _ _ (λ i. omega (arith, c.type_inv.contents i)) fit c.two_at-in-Gone.ensures c.two_at-in-Gone-2.ensures)
