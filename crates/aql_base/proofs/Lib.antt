-- rows of the definitions
mod Examples
