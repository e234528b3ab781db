-- The node is above every member, so the set rises, and it is the greatest now.
use Rattle.std.proofs.Common.{◌<◌, length, ap, ◌∙◌, sym, arith}
use Rattle.lk_members.proofs.SetLaws.{AreMembers-push, nodes_below-push}
use Rattle.lk_members.proofs.roster.Roster.join.Goals as goal

pub with_member-set-requires-clause-rises : goal.with_member-set-requires-clause-rises
with_member-set-requires-clause-rises c =
    let same = ap length (c.as_slice.ensures.value ∙ c.newest.ensures.value ∙ sym c.newest-2.ensures.value) in
    let room : length c.newest-2.result.now < 7 = omega (arith, same, c.if-as_slice-ge-MAX_MEMBERS.false) in
    let above : c.args.self.now.greatest < c.args.node =
    omega (arith, c.get.ensures.value, c.get-2.ensures.value, c.greatest.ensures, c.if-get.false) in
    AreMembers-push c.args.self.now.greatest c.newest-2.result.now _ c.newest-2.ensures.fits room
    c.newest-2.ensures.bound above

pub advance-requires-clause-bound : goal.advance-requires-clause-bound
advance-requires-clause-bound c =
    let above : c.args.self.now.greatest < c.args.node =
    omega (arith, c.get.ensures.value, c.get-2.ensures.value, c.greatest.ensures, c.if-get.false) in
    rw c.with_member-set.ensures
    (nodes_below-push c.args.self.now.greatest c.newest-2.result.now _ c.newest-2.ensures.bound above)
