-- The text that a status prints in each form.
use Rattle.std.specs.Prelude.{ℕ, Option, List, ◌++◌}
use Rattle.std.specs.Io.KnownBytes.{Appends}
use Rattle.lk_probe.specs.declared.probe.Report.{Report}
use Rattle.lk_status.specs.Measures.{IsMeasureOf}
use Rattle.lk_status.specs.declared.target.Inquiry.{Inquiry}
use Rattle.lk_status_command.specs.Json.{json_text}
use Rattle.lk_status_command.specs.Lines.{status_text}
use Rattle.lk_status_command.specs.Metrics.{metrics_text}
use Rattle.lk_status_reasons.specs.Reasons.{why_text}
use Rattle.lk_status_command.specs.declared.status.Form.{Form}
use Rattle.lk_status_command.specs.declared.status.Form.TheVariants as form

-- the lines of these reports, the first target's with this token, and why requests may not be answered
abbrev pub lines_text : ℕ → Inquiry → List Report → Option Report → List ℕ
lines_text first i rs measure = status_text first i rs measure ++ why_text measure rs

-- the text of these reports in each form
abbrev pub form_text : Form → ℕ → Inquiry → List Report → Option Report → List ℕ
form_text form.Lines first i rs measure = lines_text first i rs measure
form_text form.Json first i rs measure = json_text i.cluster first i.targets.items rs measure
form_text form.Prometheus first i rs measure = metrics_text first i rs measure

-- what is appended is the text of these reports, by the measure among them
abbrev pub Prints : Form → ℕ → Inquiry → List Report → Option (List ℕ) → Option (List ℕ) → Type 0
Prints f first i rs old new =
    (measure : Option Report) × IsMeasureOf rs measure × Appends old new (form_text f first i rs measure)
