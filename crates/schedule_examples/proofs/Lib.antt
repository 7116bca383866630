mod GoesLegally
