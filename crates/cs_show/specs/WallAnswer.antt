-- The answer to `day --zone`.
use Rattle.std.specs.Prelude.{◌≡◌, ◌⊎◌, ℕ, List, [], ◌++◌, Option, None, IsSomeAnd, codes, flat_map, true}
use Rattle.jiff_tz.specs.PosixReader.{read_whole}
use Rattle.cs_crontab.specs.declared.table.When.{When}
use Rattle.cs_crontab.specs.declared.table.When.TheVariants.{At, Reboot}
use Rattle.cs_crontab.specs.Crontab.{CommandLine}
use Rattle.cs_rule.specs.Rule.{Clock, IsClock}
use Rattle.cs_rule.specs.Faults.{is_fault}
use Rattle.cs_rule.specs.declared.fault.RuleFault.{RuleFault}
use Rattle.cs_args.specs.Asked.{AskedWall, Text}
use Rattle.cs_args.specs.Question.{IsBadWord, IsQuestion, Question}
use Rattle.cs_args.specs.Words.{word_fault}
use Rattle.cs_args.specs.declared.question.WordFault.{WordFault}
use Rattle.cs_io.specs.Files.{Failed}
use Rattle.cs_show.specs.DayText.{date_line, reboot_text}
use Rattle.cs_show.specs.WallText.{jumps_text, starts_text}
use Rattle.cs_files.specs.Asked.{Answers, FindsTables}
use Rattle.cs_files.specs.Response.{Ending, complaint, done}
use Rattle.cs_files.specs.Trouble.{InWords, ends}
use Rattle.cs_files.specs.declared.asked.Tables.{Tables}

abbrev pub when_text : Question → Clock → ℕ → When → List ℕ
when_text q c number (At schedule) = starts_text c q.day q.max number schedule
when_text q c number Reboot = reboot_text number

abbrev pub line_text : Question → Clock → CommandLine → List ℕ
line_text q c line = when_text q c line.number line.when

-- what `day --zone` prints of a crontab
unfoldable pub wall_text : Question → Clock → List CommandLine → List ℕ
wall_text q c lines = date_line q.day ++ (jumps_text c q.day ++ flat_map (line_text q c) lines)

abbrev pub wall_shown : Question → Clock → Tables → Ending
wall_shown q c tables = done (wall_text q c tables.crontab.lines) []

-- `cronsafe: zone: ` and what is wrong with the rule
abbrev pub IsRuleRefused : Ending → Type 0
IsRuleRefused ending = (text : List ℕ)
    × (ending ≡ record { status = 3; out = []; err = complaint (codes "zone: " ++ text) })

-- the text is the rule of this clock, or has this fault
abbrev pub IsRuleOf : Text → Clock → Type 0
IsRuleOf text c = IsSomeAnd (read_whole text) (λ rule. IsClock rule c)

abbrev pub IsBadRule : Text → RuleFault → Type 0
IsBadRule text fault = is_fault fault (read_whole text) ≡ true

-- the answer where the words ask a question: a rule that can't be used ends the call, and no file is
-- read before that is known; else the first fault of the crontab ends it
abbrev pub AnswersRule : AskedWall → (List ℕ → Option (List ℕ)) → List ℕ → Failed → Failed
    → Question → Ending → Type 0
AnswersRule a files w before after q ending =
    ((fault : RuleFault) × IsBadRule a.rule fault × (w ≡ []) × (after ≡ before)
    × IsRuleRefused ending)
    ⊎ ((c : Clock) × IsRuleOf a.rule c
    × Answers (FindsTables files a.day.table None w) (λ tables e. e ≡ wall_shown q c tables)
    before after ending)

-- the answer to `day --zone`: the first fault of DATE, MAX and the hours ends the call before the
-- rule is looked at
abbrev pub AnswersWall : AskedWall → (List ℕ → Option (List ℕ)) → List ℕ → Failed → Failed → Ending
    → Type 0
AnswersWall a files w before after ending =
    ((fault : WordFault) × IsBadWord a.day (word_fault fault) × (w ≡ []) × (after ≡ before)
    × (ending ≡ ends [] (InWords fault)))
    ⊎ ((q : Question) × IsQuestion a.day q × AnswersRule a files w before after q ending)
