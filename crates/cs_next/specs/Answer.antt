-- The answer to `next`.
use Rattle.std.specs.Prelude.{◌≡◌, ℕ, []}
use Rattle.cs_files.specs.Response.{Ending, done}
use Rattle.cs_files.specs.declared.asked.Tables.{Tables}
use Rattle.cs_next.specs.Next.{next_starts}
use Rattle.cs_next.specs.Text.{starts_text}

-- the next starts are listed, from a minute on
abbrev pub AreListed : Tables → ℕ → ℕ → Ending → Type 0
AreListed t count from ending = ending
    ≡ done (starts_text from t count (next_starts t.crontab.lines t.jobs.lines from count)) []
