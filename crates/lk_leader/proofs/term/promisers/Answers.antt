-- One member more, where it promised.
use Rattle.std.proofs.Common.{◌∙◌, nat_le, ◌&&◌, ◌∷◌, [], ◌==◌, sym, arith, length-append}
use Rattle.std.specs.List.{list_any}
use Rattle.lk_types.specs.declared.member.Member.{Member}
use Rattle.lk_leader.specs.Terms.{ReceivedPromise}
use Rattle.lk_leader.proofs.MemberLaws.{passing-more, passing-same}
use Rattle.lk_leader.proofs.term.promisers.Goals.{then-is_promiser_of, else-is_promiser_of}
use Rattle.lk_leader.proofs.term.promisers.Goals as goal

pub loop-member-preserved : goal.loop-member-preserved
loop-member-preserved c =
    let p = λ (m : Member). list_any
    (λ (r : ReceivedPromise). r.node == m.node && nat_le r.first c.args.position) c.args.received.now in
    elim c.if-is_promiser_of.branch [
      | then-is_promiser_of w ↦ record {
        among = rw (w.among-is, w.push.ensures.items, c.loop-member.invariant.among)
            (sym (passing-more p c.as_slice-members.result.now c.loop-member.member-index c.member-item.result
            c.loop-member-test.true c.member-item.is (sym c.is_promiser_of.ensures ∙ w.if-is_promiser_of.true)));
        few = rw (w.among-is, w.push.ensures.items)
            (omega (
              arith,
              length-append c.loop-member.among.items (c.member-item.result.node ∷ []),
              c.loop-member.invariant.few,
            ));
      }
      | else-is_promiser_of w ↦ record {
        among = rw (w.among-is, c.loop-member.invariant.among)
            (sym (passing-same p c.as_slice-members.result.now c.loop-member.member-index c.member-item.result
            c.loop-member-test.true c.member-item.is (sym c.is_promiser_of.ensures ∙ w.if-is_promiser_of.false)));
        few = rw w.among-is (omega (arith, c.loop-member.invariant.few));
      }
    ]
