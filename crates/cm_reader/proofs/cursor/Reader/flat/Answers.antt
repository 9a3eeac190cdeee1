use Rattle.std.proofs.Common.{ap, ◌∙◌}
use Rattle.cm_reader.specs.declared.start.StatementStart.TheVariants as start
use Rattle.cm_reader.proofs.cursor.Reader.flat.Goals as goal

pub named_statement-requires : goal.named_statement-requires
named_statement-requires c =
    c.requires ∙ ap start.Flat c.in-Name.is

pub empty_statement-requires : goal.empty_statement-requires
empty_statement-requires c =
    c.requires ∙ ap start.Flat c.in-Empty.is

pub return_statement-requires : goal.return_statement-requires
return_statement-requires c =
    c.requires ∙ ap start.Flat c.in-Return.is

pub print_statement-requires : goal.print_statement-requires
print_statement-requires c =
    c.requires ∙ ap start.Flat c.in-Print.is

pub sync_statement-requires : goal.sync_statement-requires
sync_statement-requires c =
    c.requires ∙ ap start.Flat c.in-Sync.is

pub spawn_statement-requires : goal.spawn_statement-requires
spawn_statement-requires c =
    c.requires ∙ ap start.Flat c.in-Spawn.is

pub simple_statement-requires : goal.simple_statement-requires
simple_statement-requires c =
    c.requires ∙ ap start.Flat c.in-Simple.is
