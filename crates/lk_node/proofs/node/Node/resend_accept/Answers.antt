use Rattle.std.proofs.Common.{◌≡◌, ◌∙◌, ◌+◌, ◌-◌, Some, inr, refl, sym, ap, subst, subst₂}
use Rattle.std.specs.Prelude.{slice_get}
use Rattle.lk_members.specs.Windows.{RosterValue}
use Rattle.lk_leader.specs.Acceptances.{IsOpen}
use Rattle.lk_leader.specs.Terms.{LeaderValue}
use Rattle.lk_node.specs.NodeValue.{NodeValue}
use Rattle.lk_node.proofs.Reminders.{members_there, offer_goes_on, offered}
use Rattle.lk_node.proofs.node.Node.resend_accept.Goals as goal

pub returns-in_default-clause-exact : goal.returns-in_default-clause-exact
returns-in_default-clause-exact g c =
    inr (
      λ p o. c.in_default.ensures p
          (subst₂ (λ (l : LeaderValue) (r : RosterValue). IsOpen l r c.args.position p)
          (sym (ap (λ (k : NodeValue). k.leader) c.self.view_is)) (sym c.roster.ensures) o),
      refl,
    )

pub returns-clause-exact : goal.returns-clause-exact
returns-clause-exact g c =
    offered c.args.self.now c.args.ballot c.args.position c.in-Some.ensures.0 c.in-Some-members_at.set.now
    c.in-Some.open.accepted.now c.deref.result.now c.copy-command.result c.args.out.now c.send_to_all.new.out
    (subst₂ (λ (l : LeaderValue) (r : RosterValue). IsOpen l r c.args.position c.in-Some.ensures.0)
    (ap (λ (k : NodeValue). k.leader) c.self.view_is) c.roster.ensures c.in-Some.ensures.1)
    (subst (λ (r : RosterValue). slice_get r.sets (c.args.position - (r.executed + 1))
    ≡ Some c.in-Some-members_at.set.now) c.roster-2.ensures c.in-Some-members_at.ensures.value)
    (c.in-Some.ensures.2 ∙ sym c.copy-command.ensures)
    c.in-Some.ensures.3
    (c.deref.ensures.value ∙ c.in_ok-nodes.ensures)
    (c.in_ok-send_to_all.ensures.fits, c.in_ok-send_to_all.ensures.said)

pub returns-in_default-members_at : goal.returns-in_default-members_at
returns-in_default-members_at g c =
    absurd (cc (c.in_default-members_at.ensures.some.1
    (members_there c.self.inside.leader c.roster-2.result.now c.args.position c.in-Some.ensures.0
    (subst (λ (r : RosterValue). IsOpen c.self.inside.leader r c.args.position c.in-Some.ensures.0)
    (c.roster.ensures ∙ sym c.roster-2.ensures) c.in-Some.ensures.1))))

pub returns-clause-safe : goal.returns-clause-safe
returns-clause-safe g c =
    offer_goes_on _ _ c.args.self.now c.args.ballot c.args.position c.args.out.now c.send_to_all.new.out
    c.facts.ensures c.requires (returns-clause-exact g c)
