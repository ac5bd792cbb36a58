-- Words of public clauses
-- what threads see of the lines that they answer
pub mod Seen
-- Laws
-- bytes that stand there, one thing behind another
pub mod SeenLaws
