use Rattle.std.proofs.Common.{List, drop}
use Rattle.std.specs.Prelude.{flat_map}
use Rattle.json.specs.Token.{Token}
use Rattle.lk_status_command.specs.Json.{entry_tokens, field_entry}
use Rattle.lk_status_command.specs.declared.field.Field.{Field}
use Rattle.lk_status_command.proofs.Adding.{Left}
use Rattle.lk_status_command.proofs.json_object.add_fields.Given as goal

abbrev pub invariant-fields : goal.invariant-fields
invariant-fields l =
    let tokens : List Field → List Token = λ fs. flat_map entry_tokens (flat_map (field_entry l.report) fs) in
    Left (tokens l.fields) (tokens (drop l.field-index l.fields)) l.fn.out l.out
