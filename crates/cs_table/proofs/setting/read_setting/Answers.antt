use Rattle.cs_table.proofs.SettingAnswers.{setting_written, setting_none}
use Rattle.cs_table.proofs.setting.read_setting.Goals as goal

pub returns-clause-written : goal.returns-clause-written
returns-clause-written c = setting_written c.args.text.now c.setting.result c.setting.ensures

pub returns-clause-none : goal.returns-clause-none
returns-clause-none c = setting_none c.args.text.now c.setting.result c.setting.ensures
