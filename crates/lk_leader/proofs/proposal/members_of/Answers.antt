-- One member more, where it is among the nodes.
use Rattle.std.proofs.Common.{◌∙◌, ◌∷◌, [], ◌==◌, sym, arith, length-append}
use Rattle.std.specs.List.{list_any}
use Rattle.lk_types.specs.declared.member.Member.{Member}
use Rattle.lk_leader.proofs.MemberLaws.{passing-more, passing-same}
use Rattle.lk_leader.proofs.proposal.members_of.Goals.{then-is_among, else-is_among}
use Rattle.lk_leader.proofs.proposal.members_of.Goals as goal

pub loop-member-preserved : goal.loop-member-preserved
loop-member-preserved c =
    let p = λ (m : Member). list_any (λ n. n == m.node) c.args.nodes.now in
    elim c.if-is_among.branch [
      | then-is_among w ↦ record {
        among = rw (w.among-is, w.push.ensures.items, c.loop-member.invariant.among)
            (sym (passing-more p c.as_slice-members.result.now c.loop-member.member-index c.member-item.result
            c.loop-member-test.true c.member-item.is (sym c.is_among.ensures ∙ w.if-is_among.true)));
        few = rw (w.among-is, w.push.ensures.items)
            (omega (
              arith,
              length-append c.loop-member.among.items (c.member-item.result.node ∷ []),
              c.loop-member.invariant.few,
            ));
      }
      | else-is_among w ↦ record {
        among = rw (w.among-is, c.loop-member.invariant.among)
            (sym (passing-same p c.as_slice-members.result.now c.loop-member.member-index c.member-item.result
            c.loop-member-test.true c.member-item.is (sym c.is_among.ensures ∙ w.if-is_among.false)));
        few = rw w.among-is (omega (arith, c.loop-member.invariant.few));
      }
    ]
