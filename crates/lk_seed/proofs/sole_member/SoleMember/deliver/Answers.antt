use Rattle.std.proofs.Common.{rules, ap, refl, subst, sym}
use Rattle.lk_seed.specs.MemberValue.{MemberValue}
use Rattle.lk_seed.specs.Histories.{IsMember}
use Rattle.lk_seed.proofs.MemberLaws.{has_delivered}
use Rattle.lk_seed.proofs.sole_member.SoleMember.deliver.Goals as goal

pub returns : goal.returns
returns c = record {
  keeps = λ header wanted. subst (λ (m : MemberValue). IsMember header wanted m
      → IsMember header wanted c.take.new.self) c.self.view_is
      (λ member. has_delivered header wanted (record {
        header = c.self.inside.header;
        replica = c.self.inside.replica;
        envelopes = c.self.inside.envelopes.items;
        asked = c.self.inside.asked;
      }) (record {
        header = c.self.inside.header;
        replica = c.self.inside.replica;
        envelopes = c.remove-envelope.new.self.items;
        asked = c.self.inside.asked;
      }) c.take.new.self c.remove-envelope.result member (search rules) c.remove-envelope.ensures.value
      c.remove-envelope.ensures.items refl refl
      (λ sent whose becomes may. c.in_ok-take.ensures.takes header wanted sent whose becomes (search rules)));
}
