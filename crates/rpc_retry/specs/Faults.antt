-- A refusal as a fault.
use Rattle.rpc_retry.specs.declared.answers.PutRefusal.{PutRefusal}
use Rattle.rpc_retry.specs.declared.answers.PutRefusal.TheVariants as refusals
use Rattle.rpc_retry.specs.declared.answers.PutFault.{PutFault}
use Rattle.rpc_retry.specs.declared.answers.PutFault.TheVariants as faults

abbrev pub fault_of : PutRefusal → PutFault
fault_of refusals.Spent = faults.Spent
fault_of refusals.Crowded = faults.Crowded
