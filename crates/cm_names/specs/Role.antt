-- How the name of a variable is used, as the code says it.
use Rattle.cm_syntax.specs.Resolution.{Role, value_read, element_read, element_write, length_read, split_whole, value_write, reference, spawn_destination, bare_argument}
use Rattle.cm_names.specs.declared.role.Role as code
use Rattle.cm_names.specs.declared.role.Role.TheVariants as roles

-- the role, as the language has it
abbrev pub role_of : code.Role → Role
role_of roles.ValueRead = value_read
role_of roles.ElementRead = element_read
role_of roles.ElementWrite = element_write
role_of roles.LengthRead = length_read
role_of roles.SplitWhole = split_whole
role_of roles.ValueWrite = value_write
role_of roles.Reference = reference
role_of roles.SpawnDestination = spawn_destination
role_of roles.BareArgument = bare_argument
