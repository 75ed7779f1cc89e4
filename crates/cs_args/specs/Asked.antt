-- What a call may ask, in texts and numbers: the doc comments of `src/request.rt` say what each
-- field is.
use Rattle.std.specs.Prelude.{ℕ, Bool, List, Option, map, option_map}
use Rattle.cs_args.specs.declared.request.AdviseWords.{AdviseWords}
use Rattle.cs_args.specs.declared.request.AllWords.{AllWords}
use Rattle.cs_args.specs.declared.request.ApplyWords.{ApplyWords}
use Rattle.cs_args.specs.declared.request.ChartWords.{ChartWords}
use Rattle.cs_args.specs.declared.request.CheckWords.{CheckWords}
use Rattle.cs_args.specs.declared.request.DayWords.{DayWords}
use Rattle.cs_args.specs.declared.request.DiffWords.{DiffWords}
use Rattle.cs_args.specs.declared.request.DraftWords.{DraftWords}
use Rattle.cs_args.specs.declared.request.Format.{Format}
use Rattle.cs_args.specs.declared.request.GatherWords.{GatherWords}
use Rattle.cs_args.specs.declared.request.JudgeWords.{JudgeWords}
use Rattle.cs_args.specs.declared.request.LearnWords.{LearnWords}
use Rattle.cs_args.specs.declared.request.LintWords.{LintWords}
use Rattle.cs_args.specs.declared.request.MakeWords.{MakeWords}
use Rattle.cs_args.specs.declared.request.NextWords.{NextWords}
use Rattle.cs_args.specs.declared.request.ReplayWords.{ReplayWords}
use Rattle.cs_args.specs.declared.request.Request.TheVariants as request
use Rattle.cs_args.specs.declared.request.Request.{Request}
use Rattle.cs_args.specs.declared.request.RunWords.{RunWords}
use Rattle.cs_args.specs.declared.request.StatusWords.{StatusWords}
use Rattle.cs_args.specs.declared.request.ReloadWords.{ReloadWords}
use Rattle.cs_args.specs.declared.request.StopWords.{StopWords}
use Rattle.cs_args.specs.declared.request.WallWords.{WallWords}

abbrev pub Text : Type 0
Text = List ℕ

pub record Asked : Type 0 where
  pub table : Text
  pub date : Text
  pub max : ℕ
  pub anacrontab : Option Text
  pub from : ℕ
  pub to : ℕ

pub record AskedWall : Type 0 where
  pub day : Asked
  pub rule : Text

pub record AskedReplay : Type 0 where
  pub table : Text
  pub script : Text
  pub max : ℕ
  pub anacrontab : Option Text
  pub declarations : Option Text
  pub judge : Bool
  pub log : Bool
  pub show_script : Bool

pub record AskedCheck : Type 0 where
  pub table : Text
  pub declarations : Text
  pub certificate : Text
  pub anacrontab : Option Text
  pub format : Format

pub record AskedRun : Type 0 where
  pub check : AskedCheck
  pub stamps : Text
  pub minutes : Option ℕ
  pub log : Option Text
  pub output : Option Text
  pub keep : Option ℕ
  pub home : Bool
  pub enforce : Bool
  pub on_overrun : Option Text
  pub on_failure : Option Text
  pub on_limit : Option Text
  pub on_success : Option Text
  pub on_recovered : Option Text
  pub mail : Option Text
  pub last_accepted : Bool
  pub check_only : Bool

pub record AskedStop : Type 0 where
  pub stamps : Text
  pub now : Bool

pub record AskedReload : Type 0 where
  pub stamps : Text
  pub drain : Bool

pub record AskedStatus : Type 0 where
  pub stamps : Text
  pub json : Bool
  pub metrics : Bool

pub record AskedJudge : Type 0 where
  pub table : Text
  pub declarations : Text
  pub anacrontab : Option Text
  pub format : Format

pub record AskedAll : Type 0 where
  pub folders : List Text
  pub only : List Text
  pub except : List Text
  pub faults_only : Bool
  pub format : Format

pub record AskedDiff : Type 0 where
  pub old : AskedJudge
  pub new : AskedJudge
  pub since : Option Text
  pub markdown : Bool

pub record AskedNext : Type 0 where
  pub table : Text
  pub anacrontab : Option Text
  pub count : ℕ
  pub from : Option Text
  pub json : Bool

pub record AskedApply : Type 0 where
  pub judge : AskedJudge
  pub certificate : Text
  pub stamps : Text

pub record AskedMake : Type 0 where
  pub judge : AskedJudge
  pub compact : Bool

pub record AskedAdvise : Type 0 where
  pub judge : AskedJudge
  pub within : ℕ
  pub first : Option ℕ

pub record AskedGather : Type 0 where
  pub root : Option Text
  pub system : List Text
  pub user : List Text

pub record AskedDraft : Type 0 where
  pub table : Text
  pub max : ℕ
  pub anacrontab : Option Text
  pub update : Option Text
  pub maxes : Option Text

pub record AskedLearn : Type 0 where
  pub table : Text
  pub logs : List Text
  pub anacrontab : Option Text
  pub factor : Text

pub record AskedLint : Type 0 where
  pub table : Text
  pub declarations : Option Text
  pub anacrontab : Option Text
  pub zone : Option Text
  pub only : List Text
  pub except : List Text
  pub faults_only : Bool
  pub format : Format

pub record AskedChart : Type 0 where
  pub day : Asked
  pub days : ℕ
  pub declarations : Option Text

-- what words may ask: a subcommand, or, by the subcommand `help`, how the program is called
pub data Asking : Type 0 where
  Day : Asked → Asking
  Wall : AskedWall → Asking
  Replay : AskedReplay → Asking
  Check : AskedCheck → Asking
  Run : AskedRun → Asking
  Stop : AskedStop → Asking
  Reload : AskedReload → Asking
  Apply : AskedApply → Asking
  Status : AskedStatus → Asking
  Judge : AskedJudge → Asking
  Make : AskedMake → Asking
  Advise : AskedAdvise → Asking
  Room : AskedJudge → Asking
  Gather : AskedGather → Asking
  Draft : AskedDraft → Asking
  Learn : AskedLearn → Asking
  Lint : AskedLint → Asking
  Chart : AskedChart → Asking
  Explain : Option Text → Asking
  JudgeAll : AskedAll → Asking
  LintAll : AskedAll → Asking
  Diff : AskedDiff → Asking
  Next : AskedNext → Asking
  Help : Asking

abbrev pub asked : DayWords → Asked
asked d = record {
  table = d.table.now;
  date = d.date.now;
  max = d.max;
  anacrontab = option_map (λ path. path.now) d.anacrontab;
  from = d.from;
  to = d.to;
}

abbrev pub asked_wall : WallWords → AskedWall
asked_wall w = record { day = asked w.day; rule = w.rule.now }

abbrev pub asked_replay : ReplayWords → AskedReplay
asked_replay r = record {
  table = r.table.now;
  script = r.script.now;
  max = r.max;
  anacrontab = option_map (λ path. path.now) r.anacrontab;
  declarations = option_map (λ path. path.now) r.declarations;
  judge = r.judge;
  log = r.log;
  show_script = r.show_script;
}

abbrev pub asked_check : CheckWords → AskedCheck
asked_check c = record {
  table = c.table.now;
  declarations = c.declarations.now;
  certificate = c.certificate.now;
  anacrontab = option_map (λ path. path.now) c.anacrontab;
  format = c.format;
}

abbrev pub asked_run : RunWords → AskedRun
asked_run r = record {
  check = asked_check r.check;
  stamps = r.stamps.now;
  minutes = r.minutes;
  log = option_map (λ path. path.now) r.log;
  output = option_map (λ path. path.now) r.output;
  keep = r.keep;
  home = r.home;
  enforce = r.enforce;
  on_overrun = option_map (λ command. command.now) r.on_overrun;
  on_failure = option_map (λ command. command.now) r.on_failure;
  on_limit = option_map (λ command. command.now) r.on_limit;
  on_success = option_map (λ command. command.now) r.on_success;
  on_recovered = option_map (λ command. command.now) r.on_recovered;
  mail = option_map (λ command. command.now) r.mail;
  last_accepted = r.last_accepted;
  check_only = r.check_only;
}

abbrev pub asked_stop : StopWords → AskedStop
asked_stop s = record { stamps = s.stamps.now; now = s.now }

abbrev pub asked_reload : ReloadWords → AskedReload
asked_reload r = record { stamps = r.stamps.now; drain = r.drain }

abbrev pub asked_status : StatusWords → AskedStatus
asked_status s = record { stamps = s.stamps.now; json = s.json; metrics = s.metrics }

abbrev pub asked_judge : JudgeWords → AskedJudge
asked_judge j = record {
  table = j.table.now;
  declarations = j.declarations.now;
  anacrontab = option_map (λ path. path.now) j.anacrontab;
  format = j.format;
}

abbrev pub asked_all : AllWords → AskedAll
asked_all a = record {
  folders = map (λ path. path.now) a.folders.items;
  only = map (λ name. name.now) a.only.items;
  except = map (λ name. name.now) a.except.items;
  faults_only = a.faults_only;
  format = a.format;
}

abbrev pub asked_diff : DiffWords → AskedDiff
asked_diff d = record {
  old = asked_judge d.old;
  new = asked_judge d.new;
  since = option_map (λ date. date.now) d.since;
  markdown = d.markdown;
}

abbrev pub asked_next : NextWords → AskedNext
asked_next n = record {
  table = n.table.now;
  anacrontab = option_map (λ path. path.now) n.anacrontab;
  count = n.count;
  from = option_map (λ minute. minute.now) n.from;
  json = n.json;
}

abbrev pub asked_apply : ApplyWords → AskedApply
asked_apply a = record {
  judge = asked_judge a.judge;
  certificate = a.certificate.now;
  stamps = a.stamps.now;
}

abbrev pub asked_make : MakeWords → AskedMake
asked_make m = record { judge = asked_judge m.judge; compact = m.compact }

abbrev pub asked_advise : AdviseWords → AskedAdvise
asked_advise a = record { judge = asked_judge a.judge; within = a.within; first = a.first }

abbrev pub asked_gather : GatherWords → AskedGather
asked_gather g = record {
  root = option_map (λ path. path.now) g.root;
  system = map (λ path. path.now) g.system.items;
  user = map (λ path. path.now) g.user.items;
}

abbrev pub asked_draft : DraftWords → AskedDraft
asked_draft d = record {
  table = d.table.now;
  max = d.max;
  anacrontab = option_map (λ path. path.now) d.anacrontab;
  update = option_map (λ path. path.now) d.update;
  maxes = option_map (λ path. path.now) d.maxes;
}

abbrev pub asked_learn : LearnWords → AskedLearn
asked_learn l = record {
  table = l.table.now;
  logs = map (λ path. path.now) l.logs.items;
  anacrontab = option_map (λ path. path.now) l.anacrontab;
  factor = l.factor.now;
}

abbrev pub asked_lint : LintWords → AskedLint
asked_lint l = record {
  table = l.table.now;
  declarations = option_map (λ path. path.now) l.declarations;
  anacrontab = option_map (λ path. path.now) l.anacrontab;
  zone = option_map (λ path. path.now) l.zone;
  only = map (λ name. name.now) l.only.items;
  except = map (λ name. name.now) l.except.items;
  faults_only = l.faults_only;
  format = l.format;
}

abbrev pub asked_chart : ChartWords → AskedChart
asked_chart c = record {
  day = asked c.day;
  days = c.days;
  declarations = option_map (λ path. path.now) c.declarations;
}

abbrev pub asking : Request → Asking
asking (request.Day d) = Day (asked d)
asking (request.Wall w) = Wall (asked_wall w)
asking (request.Replay r) = Replay (asked_replay r)
asking (request.Check c) = Check (asked_check c)
asking (request.Run r) = Run (asked_run r)
asking (request.Stop s) = Stop (asked_stop s)
asking (request.Reload r) = Reload (asked_reload r)
asking (request.Apply a) = Apply (asked_apply a)
asking (request.Status s) = Status (asked_status s)
asking (request.Judge j) = Judge (asked_judge j)
asking (request.Make m) = Make (asked_make m)
asking (request.Advise a) = Advise (asked_advise a)
asking (request.Room r) = Room (asked_judge r)
asking (request.Gather g) = Gather (asked_gather g)
asking (request.Draft d) = Draft (asked_draft d)
asking (request.Learn l) = Learn (asked_learn l)
asking (request.Lint l) = Lint (asked_lint l)
asking (request.Chart c) = Chart (asked_chart c)
asking (request.JudgeAll a) = JudgeAll (asked_all a)
asking (request.LintAll a) = LintAll (asked_all a)
asking (request.Diff d) = Diff (asked_diff d)
asking (request.Next n) = Next (asked_next n)
asking (request.Explain name) = Explain (option_map (λ name. name.now) name)
