-- How definitions see a name that the code keeps.
use Rattle.view_graph.specs.declared.names.mentions.Mention.{Mention}
use Rattle.view_graph.specs.declared.names.mentions.Mention.TheVariants.{View, Dictionary}
use Rattle.view_graph.specs.Names.{Named, view_named, dictionary_named}

abbrev pub named_of : Mention → Named
named_of (View name) = view_named name.now
named_of (Dictionary name) = dictionary_named name.now
