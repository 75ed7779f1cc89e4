use Rattle.std.proofs.Common.{◌≡◌, ◌∙◌, ◌*◌, ◌++◌, append_assoc, arith, refl, string_bytes}
use Rattle.cs_windows.specs.Occupied.{job_of}
use Rattle.cs_chart.specs.Bars.{is_held}
use Rattle.cs_chart.specs.Chart.{IsPictureOf, bars_text}
use Rattle.cs_chart.proofs.Joined.{drawn_of}
use Rattle.cs_chart.proofs.job.push_plot.Goals as goal

pub returns-in_default : goal.returns-in_default
unfolding IsPictureOf
returns-in_default c = rw c.in_default.is tt

pub returns : goal.returns
unfolding IsPictureOf
returns c =
    let span = c.args.beside.now.span in
    let gap : 2 * c.from.result ≡ 2 * span.days = omega (arith, c.from.ensures, c.days.ensures.value) in
    let shown = c.as_slice-3.result.now in
    let colour = c.colour_of-colour.result.now in
    let are = drawn_of (is_held span (job_of c.in-Some.occupied)) c.in_ok-bars.bars.items c.as_slice-2.result.now
    c.in_ok-drawn.drawn.bars.items shown _ _ c.as_slice-2.ensures.value gap c.as_slice-3.ensures.value
    c.in_ok-bars.ensures c.in_ok-drawn.ensures in
    let start = c.as_str.ensures.value ∙ c.in_ok-start.ensures.ok in
    let parts : string_bytes c.push_str-2.new.self ≡ string_bytes c.begin_plot.new.text ++ (bars_text colour shown ++ c.as_str-2.result.now)
    = rw (c.in_ok-push_str-2.ensures.bytes, c.in_ok-push_stretches.ensures, start) (simp append_assoc refl) in
    rw c.in-Some.is (shown, colour, string_bytes c.begin_plot.new.text, c.as_str-2.result.now, are, c.colour_of-colour.ensures, parts, tt)
