-- what was put at the start of a buffer; and a sheet's numbers, one after another
mod Put
mod Going
