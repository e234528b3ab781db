use Rattle.std.proofs.Common.{rules, ◌≡◌, Some}
use Rattle.lk_codec.specs.FieldReading.{read_command}
use Rattle.lk_messages.proofs.Spellings.{stepped}
use Rattle.lk_wire.proofs.viewing.decided.Commands.skip.Goals as goal

pub returns-clause-some : goal.returns-clause-some
returns-clause-some c =
    let a = stepped read_command c.self.inside.bytes.now c.in_ok-rest.rest.now c.in_ok-rest.ensures in
    let found : read_command c.self.inside.bytes.now ≡ Some (a.0, c.in_ok-rest.rest.now) = a.1 in
    (a.0, search rules)
