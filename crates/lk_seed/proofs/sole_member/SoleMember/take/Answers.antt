use Rattle.std.proofs.Common.{◌≡◌, ◌++◌, ℕ, refl, subst}
use Rattle.lk_seed.specs.Histories.{Becomes, HasTaken, MayReach, own_of}
use Rattle.lk_seed.specs.MemberValue.{MemberValue}
use Rattle.lk_seed.proofs.MemberLaws.{has_taken}
use Rattle.lk_seed.proofs.sole_member.SoleMember.take.Goals as goal

pub returns-in_ok-keep_own-in-Ok : goal.returns-in_ok-keep_own-in-Ok
returns-in_ok-keep_own-in-Ok c = record {
  takes = λ header wanted sent. subst (λ (m : MemberValue). m.header ≡ header → Becomes header wanted m.replica sent
      → MayReach header wanted sent c.args.input → HasTaken header wanted sent m (record {
        header = c.self.inside.header;
        replica = c.take.new.self;
        envelopes = c.keep_own.new.envelopes.items;
        asked = c.self.inside.asked;
      })) c.self.view_is
      (λ is was may. has_taken header wanted sent (record {
        header = c.self.inside.header;
        replica = c.self.inside.replica;
        envelopes = c.self.inside.envelopes.items;
        asked = c.self.inside.asked;
      }) (record {
        header = c.self.inside.header;
        replica = c.take.new.self;
        envelopes = c.keep_own.new.envelopes.items;
        asked = c.self.inside.asked;
      }) c.args.input c.in-Ok.taken.notes.items c.in-Ok.taken.sent.items is was may c.in-Ok.ensures.exact
      (subst (λ (n : ℕ). c.keep_own.new.envelopes.items ≡ c.self.inside.envelopes.items
      ++ own_of n c.in-Ok.taken.sent.items) c.node.ensures c.in_ok-keep_own-in-Ok.ensures) refl);
}
