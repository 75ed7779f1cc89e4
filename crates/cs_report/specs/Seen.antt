-- A line as the code holds it, wherever it lies in memory.
use Rattle.cs_report.specs.declared.form.Form.{Form as HeldForm}
use Rattle.cs_report.specs.declared.form.Form.TheVariants as form
use Rattle.cs_report.specs.declared.entry.Entry.{Entry as HeldEntry}
use Rattle.cs_report.specs.declared.entry.Entry.TheVariants as held
use Rattle.cs_report.specs.Grammar.{Form, Start, Stamp, Minute, Up, Down, Begin, Got, Catch}
use Rattle.cs_report.specs.Grammar.{EndLine, EndJob, Entry, Starts, Stamps, Happens}

abbrev pub form_seen : HeldForm → Form
form_seen (form.Start moment up) = Start moment.now up
form_seen (form.Stamp identifier date) = Stamp identifier.now date.now
form_seen (form.Minute moment) = Minute moment.now
form_seen (form.Up moment) = Up moment.now
form_seen form.Down = Down
form_seen (form.Begin number) = Begin number.now
form_seen (form.Got number moment) = Got number.now moment.now
form_seen (form.Catch identifier) = Catch identifier.now
form_seen (form.EndLine number moment) = EndLine number.now moment.now
form_seen (form.EndJob identifier moment) = EndJob identifier.now moment.now

abbrev pub entry_seen : HeldEntry → Entry
entry_seen (held.Start t up) = Starts t up
entry_seen (held.Stamp place day) = Stamps place day
entry_seen (held.Event event) = Happens event
