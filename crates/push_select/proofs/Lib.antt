-- expressions that are made of a list
pub mod ExprViews
-- conditions that are taken apart
pub mod Parting
-- conditions by the side that they read
pub mod SideViews
-- the join that a condition stands for
pub mod JoinViews
-- joins in place of products
pub mod JoiningRows
-- nodes that combine two others
pub mod BelowViews
-- nodes that take the place of others
pub mod Replacing
-- sides that are narrowed
pub mod Narrowing
-- where conditions stand in plans that grow
pub mod Standing
-- selections and projections that go down
pub mod Going
-- products of three nodes
pub mod Reordering
-- rows of which columns are shown
pub mod ShownRows
-- left nodes that show columns
pub mod Showing
-- joins that look near their left rows
pub mod Searching
