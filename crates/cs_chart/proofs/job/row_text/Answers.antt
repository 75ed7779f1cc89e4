use Rattle.std.proofs.Common.{[], ◌∷◌, string_bytes}
use Rattle.cs_chart.specs.Chart.{shown_of}
use Rattle.cs_chart.proofs.Drawn.{before_text}
use Rattle.cs_chart.proofs.job.row_text.Goals as goal

pub returns : goal.returns
returns c = rw c.in_ok-push_str-3.ensures.bytes (before_text c.args.beside.now.span (shown_of c.args.row.now ∷ []) (string_bytes c.push_plot.new.text) _ c.in_ok-push_plot.ensures)
