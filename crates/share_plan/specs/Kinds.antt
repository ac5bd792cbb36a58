-- How nodes are put into a plan in which each column is searched for dictionaries once.
use Rattle.algebra.specs.declared.node.Node.{Node}
use Rattle.algebra.specs.declared.node.Node.TheVariants.{Dict, DictPart}
use Rattle.share_plan.specs.declared.kind.Kind.{Kind}
use Rattle.share_plan.specs.declared.kind.Kind.TheVariants.{Source, Part, Plain}

-- a `Dict` node is put when a part of it is, and any other as it is
abbrev pub kind_of : Node → Kind
kind_of (Dict input column dicts) = Source
kind_of (DictPart input number) = Part input number
kind_of node = Plain
