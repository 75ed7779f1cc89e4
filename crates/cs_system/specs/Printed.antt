use Rattle.std.specs.Prelude.{ℕ, List, codes}
use Rattle.cs_crontab.specs.Printed.{fault_text as line_fault_text}
use Rattle.cs_system.specs.declared.fault.SystemFault.{SystemFault}
use Rattle.cs_system.specs.declared.fault.SystemFault.TheVariants.{Line, BadUser}

-- a fault's number and name
abbrev pub fault_text : SystemFault → List ℕ
fault_text (Line fault) = line_fault_text fault
fault_text BadUser = codes "13 BadUser"
